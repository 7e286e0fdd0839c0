-- What a refusal of a method tells.
use Rattle.std.specs.Prelude.{◌≡◌, Bool, true, false, Contains}
use Rattle.df_base.specs.declared.refusal.Refusal.{Refusal}
use Rattle.df_base.specs.declared.refusal.Code.TheVariants as codes
use Rattle.df_base.specs.declared.refusal.Detail.TheVariants as details
use Rattle.df_lang.specs.Program.{Method, Program}
use Rattle.df_lang.specs.Typing.{is_method}
use Rattle.df_lang.specs.Assignment.{Use}
use Rattle.df_ntyping.specs.Least.{by_number}
use Rattle.df_ntyping.specs.Unassigned.{uses_missing, end_number}
use Rattle.df_nghost.specs.mirror.Uses.{shown, precedes}

-- in a program
abbrev pub IsTyped : Method → Type 0
IsTyped method = (program : Program) × (is_method program method ≡ true)

-- the refusal tells of the first use of the method without a value, inside or at its end
pub record TellsOf (method : Method) (refusal : Refusal) : Type 0 where
  pub at_end : Bool
  pub of : Use
  pub there : Contains (uses_missing method at_end) of
  pub least : (end : Bool) (other : Use) → Contains (uses_missing method end) other → by_number (end_number end) (end_number at_end) (precedes (shown other) (shown of)) ≡ false
  pub code : refusal.code ≡ codes.Unassigned
  pub pos : refusal.pos ≡ of.pos
  pub detail : refusal.detail ≡ details.Word of.name
