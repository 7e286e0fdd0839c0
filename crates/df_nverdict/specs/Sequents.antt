-- Sequents of obligations.
use Rattle.std.specs.Prelude.{◌≡◌}
use Rattle.df_lang.specs.Program.{Program}
use Rattle.df_form.specs.World.{of_program}
use Rattle.df_form.specs.Sequent.{Sequent, IsSequent, IsNumbered}
use Rattle.df_npass.specs.Methods.{Obligation}
use Rattle.df_nowed.specs.Laws.{obligation_of}

-- The sequent speaks of the program, and its hypotheses and its goal are those of the obligation. Its nodes are numbered, so there is one.
pub record IsSequentOf (program : Program) (o : Obligation) (s : Sequent) : Type 0 where
  pub sequent : IsSequent s
  pub numbered : ∥ IsNumbered s ∥₁
  pub world : s.world ≡ of_program program
  pub owed : obligation_of o.declaration o.pos o.kind s ≡ o
