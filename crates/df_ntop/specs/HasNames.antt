-- The names of a program.
use Rattle.std.specs.Prelude.{◌≡◌, true}
use Rattle.df_lang.specs.Program.{Program}
use Rattle.df_nback.specs.MethodNames.{has_names}
use Rattle.df_nproof.specs.Names.{HaveTypeNames}

-- the method of each number has one, and the newtype of each number one by which logs tell it alone
pub record HasNames (program : Program) : Type 0 where
  pub methods : has_names program ≡ true
  pub types : HaveTypeNames program
