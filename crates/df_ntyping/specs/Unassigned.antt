-- S13: the first local that is read without a value, or result that is left without one. Methods come in the order of the
-- source; in a method a use comes where it stands, a `return` with the first of its results; what the end of the body
-- leaves comes last. In a program that is no source's a local may have two names at one place: the lower one is told.
use Rattle.std.specs.Prelude.{◌≡◌, ℕ, Bool, true, false, nat_lt, List, Contains, Some}
use Rattle.df_base.specs.declared.refusal.Code.TheVariants as codes
use Rattle.df_base.specs.declared.refusal.Detail.TheVariants as details
use Rattle.df_base.specs.declared.refusal.Refusal.{Refusal}
use Rattle.df_lang.specs.Program.{Method, Program, method_at}
use Rattle.df_lang.specs.Assignment.{Use, flow_all, at_entry, unassigned, results_at}
use Rattle.df_ntyping.specs.Least.{IsLeast, by_number}

-- a use without a value in the method of a number: inside, or at the end of the body
pub record Missing : Type 0 where
  pub method : ℕ
  pub at_end : Bool
  pub of : Use

abbrev pub uses_missing : Method → Bool → List Use
uses_missing m false = (flow_all m (at_entry m) m.body).missing
uses_missing m true = unassigned (flow_all m (at_entry m) m.body).behind (results_at m m.pos)

abbrev pub IsMissing : Program → Missing → Type 0
IsMissing program missing = (m : Method) × (method_at program missing.method ≡ Some m) × Contains (uses_missing m missing.at_end) missing.of

abbrev pub end_number : Bool → ℕ
end_number false = 0
end_number true = 1

abbrev pub comes_before : Missing → Missing → Bool
comes_before one other =
    by_number one.method other.method
    (by_number (end_number one.at_end) (end_number other.at_end)
    (by_number one.of.pos.line other.of.pos.line
    (by_number one.of.pos.col other.of.pos.col
    (by_number one.of.local other.of.local
    (nat_lt one.of.name other.of.name)))))

-- the refusal tells the first
pub record IsToldMissing (program : Program) (refusal : Refusal) : Type 0 where
  pub missing : Missing
  pub least : IsLeast (IsMissing program) comes_before missing
  pub code : refusal.code ≡ codes.Unassigned
  pub pos : refusal.pos ≡ missing.of.pos
  pub detail : refusal.detail ≡ details.Word missing.of.name
