-- That division and its remainder are Euclidean.
use Rattle.std.specs.Prelude.{◌≡◌, ℤ, pos, ◌+ℤ◌, ◌*ℤ◌, ◌≤ℤ◌, ◌<ℤ◌, false, unsigned_abs}
use Rattle.std.specs.Ordering.{int_eq}
use Rattle.df_base.specs.declared.pos.Pos.{Pos}
use Rattle.df_lang.specs.declared.ty.Ty.TheVariants as types
use Rattle.df_lang.specs.declared.expr.FactorOperator.TheVariants as factors
use Rattle.df_lang.specs.Program.{Program}
use Rattle.df_meaning.specs.Value.{Number}
use Rattle.df_meaning.specs.Outcome.{Gives}
use Rattle.df_meaning.specs.Evaluation.{multiplied}

-- the quotient and the remainder, which is not negative and lies below the absolute value of the divisor
pub record IsDivision (a b quotient remainder : ℤ) : Type 0 where
  pub parts : a ≡ (quotient *ℤ b) +ℤ remainder
  pub not_negative : pos 0 ≤ℤ remainder
  pub less : remainder <ℤ pos (unsigned_abs b)

abbrev pub DivisionsAreEuclidean : Type 0
DivisionsAreEuclidean = (program : Program) (at : Pos) (a b quotient remainder : ℤ) → int_eq b (pos 0) ≡ false
    → multiplied program factors.Divide types.Int at a b ≡ Gives (Number quotient) → multiplied program factors.Modulo types.Int at a b ≡ Gives (Number remainder) → IsDivision a b quotient remainder
