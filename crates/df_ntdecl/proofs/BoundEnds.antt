-- The ends of a range by their operators, where 128 bits hold them.
use Rattle.std.proofs.Common.{◌≡◌, ℕ, ◌^◌, ◌<◌, ◌≤◌, length, ℤ, pos, ◌<ℤ◌, Bool, true, false, ◌&&◌, List, [], ◌∷◌, Some, None, refl, arith}
use Rattle.std.specs.Prelude.{◌+ℤ◌, ◌-ℤ◌, neg_ℤ, int_le, int_lt, nat_lt, if◌then◌else◌}
use Rattle.std.proofs.lemmas.Bool.{and_parts, ltb-true}
use Rattle.std.proofs.lemmas.Int.{ints}
use Rattle.df_ntree.specs.declared.tree.Literal.{Literal}
use Rattle.df_ntree.specs.declared.expr.BinaryOperator.{BinaryOperator}
use Rattle.df_ntree.specs.declared.expr.BinaryOperator.TheVariants as binary
use Rattle.df_ntree.specs.Expr.{Expr, Number, Operation, members_of}
use Rattle.df_ntree.specs.ExprSpelling.{spell_number}
use Rattle.df_ntyping.specs.Literals.{AreInRange}
use Rattle.df_ntyping.specs.ExprTypes.{value_of}
use Rattle.df_ntyping.specs.rules.Newtypes.{is_bound, lowest, highest}
use Rattle.df_ntyping.proofs.Ranges.{InRange}
use Rattle.df_ntdecl.specs.mirror.Bounds.{is_limited, fitting, low_end, high_end, ends_of_run}

-- ---- literals

limited_by : (literal : Literal) (b : Bool) → literal.negative ≡ b → AreInRange (spell_number literal) → is_limited literal ≡ true
limited_by literal true p r = (and_parts (nat_lt literal.magnitude (2 ^ 127)) true (rw p at r)).0
limited_by literal false p r = (and_parts (nat_lt literal.magnitude (2 ^ 127)) true (rw p at r)).0

pub limited_of : (literal : Literal) → InRange (Number literal) → is_limited literal ≡ true
limited_of literal r = limited_by literal literal.negative refl r

-- ---- runs that are no chain of three

pub few_have_none : (variable : ℕ) (first : Expr) (rest : List Operation) → length rest < 2 → None ≡ ends_of_run variable first (members_of rest)
few_have_none variable first [] lt = refl
few_have_none variable first (a ∷ []) lt = refl
few_have_none variable first (a ∷ b ∷ rest) lt = absurd (omega arith)

pub many_have_none : (variable : ℕ) (first : Expr) (rest : List Operation) → 3 ≤ length rest → None ≡ ends_of_run variable first (members_of rest)
many_have_none variable first [] le = absurd (omega arith)
many_have_none variable first (a ∷ []) le = absurd (omega arith)
many_have_none variable first (a ∷ b ∷ []) le = absurd (omega arith)
many_have_none variable first (a ∷ b ∷ c ∷ rest) le = refl

-- ---- numbers

abbrev pub top : ℤ
top = pos (2 ^ 127)

abbrev bottom : ℤ
bottom = neg_ℤ (pos (2 ^ 127))

-- strictly between the least number of 128 bits and the number above the greatest
pub record Fits (n : ℤ) : Type 0 where
  pub above : bottom <ℤ n
  pub below : n <ℤ top

pub value_fits : (literal : Literal) → is_limited literal ≡ true → Fits (value_of literal)
value_fits literal e = by literal.negative
  where
    small : literal.magnitude < 2 ^ 127
    small = ltb-true literal.magnitude (2 ^ 127) e

    by : (negative : Bool) → Fits (if negative then neg_ℤ (pos literal.magnitude) else pos literal.magnitude)
    by true = record { above = omega (arith, ints, small); below = omega (arith, ints, small) }
    by false = record { above = omega (arith, ints, small); below = omega (arith, ints, small) }

-- ---- ends by their operators

pub data Low (x : BinaryOperator) (n : ℤ) : Type 0 where
  low_found : is_bound x ≡ true → low_end x n ≡ Some (lowest x n) → Low x n
  -- the number above is no number of 128 bits, and no default is as large
  low_misfit : is_bound x ≡ true → low_end x n ≡ None → ((d : ℤ) → d <ℤ top → int_le (lowest x n) d ≡ false) → Low x n
  low_unordered : is_bound x ≡ false → low_end x n ≡ None → Low x n

pub data High (y : BinaryOperator) (m : ℤ) : Type 0 where
  high_found : is_bound y ≡ true → high_end y m ≡ Some (highest y m) → High y m
  high_unordered : is_bound y ≡ false → high_end y m ≡ None → High y m

fits_or : (n : ℤ) (b : Bool) → (int_le bottom n && int_lt n top) ≡ b → fitting n ≡ (if b then Some n else None)
fits_or n b e = rw e refl

too_large : (n d : ℤ) → bottom <ℤ n → d <ℤ top → (int_le bottom (n +ℤ pos 1) && int_lt (n +ℤ pos 1) top) ≡ false → int_le (n +ℤ pos 1) d ≡ false
too_large n d above below e = grind (arith, ints)

low_less : (n : ℤ) → Fits n → (b : Bool) → (int_le bottom (n +ℤ pos 1) && int_lt (n +ℤ pos 1) top) ≡ b → Low binary.Less n
low_less n fits true e = low_found refl (fits_or (n +ℤ pos 1) true e)
low_less n fits false e = low_misfit refl (fits_or (n +ℤ pos 1) false e) (λ d below. too_large n d fits.above below e)

pub low_is : (x : BinaryOperator) (n : ℤ) → Fits n → Low x n
low_is binary.Less n fits = low_less n fits _ refl
low_is binary.AtMost n fits = low_found refl refl
low_is operator n fits = low_unordered refl refl

less_fits : (m : ℤ) → bottom <ℤ m → m <ℤ top → (int_le bottom (m -ℤ pos 1) && int_lt (m -ℤ pos 1) top) ≡ true
less_fits m above below = grind (arith, ints)

one_less : (m : ℤ) → Fits m → (int_le bottom (m -ℤ pos 1) && int_lt (m -ℤ pos 1) top) ≡ true
one_less m fits = less_fits m fits.above fits.below

pub high_is : (y : BinaryOperator) (m : ℤ) → Fits m → High y m
high_is binary.Less m fits = high_found refl (fits_or (m -ℤ pos 1) true (one_less m fits))
high_is binary.AtMost m fits = high_found refl refl
high_is operator m fits = high_unordered refl refl
