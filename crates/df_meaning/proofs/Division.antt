-- The quotient and the remainder, by the signs of both.
use Rattle.std.proofs.Common.{◌≡◌, ◌<◌, ◌+◌, ◌*◌, ◌-◌, ◌/◌, ◌%◌, ℕ, zero, suc, ℤ, pos, negsuc, neg_ℤ, ◌+ℤ◌, ◌*ℤ◌, ◌≤ℤ◌, ◌<ℤ◌, Bool, true, false, if◌then◌else◌, mod-lt, div-add-mod', subst, arith}
use Rattle.std.proofs.lemmas.Int.{ints}
use Rattle.std.specs.Ordering.{int_eq}
use Rattle.std.specs.Int.{int_div_euclid, int_rem_euclid}
use Rattle.df_base.specs.declared.pos.Pos.{Pos}
use Rattle.df_meaning.specs.declared.kind.Kind.TheVariants as kinds
use Rattle.df_meaning.specs.Value.{Number}
use Rattle.df_meaning.specs.Outcome.{Gives, Wrong}
use Rattle.df_meaning.specs.Division.{IsDivision, DivisionsAreEuclidean}

both_natural : (a q r n : ℕ) → q * n + r ≡ a → pos a ≡ (pos q *ℤ pos n) +ℤ pos r
both_natural a q r n e = grind (arith, ints, e)

by_negative : (a q r b : ℕ) → q * suc b + r ≡ a → pos a ≡ (neg_ℤ (pos q) *ℤ negsuc b) +ℤ pos r
by_negative a q r b e = grind (arith, ints, e)

of_negative : (a q r n : ℕ) → q * n + r ≡ a → r < n → negsuc a ≡ (negsuc q *ℤ pos n) +ℤ pos (n - 1 - r)
of_negative a q r n e less = grind (arith, ints, e, less)

both_negative : (a q r b : ℕ) → q * suc b + r ≡ a → r < suc b → negsuc a ≡ (pos (suc q) *ℤ negsuc b) +ℤ pos (suc b - 1 - r)
both_negative a q r b e less = grind (arith, ints, e, less)

natural : (r : ℕ) → pos 0 ≤ℤ pos r
natural r = omega (arith, ints)

less_than : (r n : ℕ) → r < n → pos r <ℤ pos n
less_than r n less = omega (arith, ints, less)

pub euclid : (a b : ℤ) → int_eq b (pos 0) ≡ false → IsDivision a b (int_div_euclid a b) (int_rem_euclid a b)
euclid (pos a) (pos zero) h = absurd (let f : true ≡ false = h in cc)
euclid (negsuc a) (pos zero) h = absurd (let f : true ≡ false = h in cc)
euclid (pos a) (pos (suc b)) h = record {
  parts = both_natural a (a / suc b) (a % suc b) (suc b) (div-add-mod' a (suc b));
  not_negative = natural (a % suc b);
  less = less_than (a % suc b) (suc b) (mod-lt a (omega arith));
}
euclid (pos a) (negsuc b) h = record {
  parts = by_negative a (a / suc b) (a % suc b) b (div-add-mod' a (suc b));
  not_negative = natural (a % suc b);
  less = less_than (a % suc b) (suc b) (mod-lt a (omega arith));
}
euclid (negsuc a) (pos (suc b)) h = record {
  parts = of_negative a (a / suc b) (a % suc b) (suc b) (div-add-mod' a (suc b)) (mod-lt a (omega arith));
  not_negative = natural (suc b - 1 - a % suc b);
  less = less_than (suc b - 1 - a % suc b) (suc b) (omega arith);
}
euclid (negsuc a) (negsuc b) h = record {
  parts = both_negative a (a / suc b) (a % suc b) b (div-add-mod' a (suc b)) (mod-lt a (omega arith));
  not_negative = natural (suc b - 1 - a % suc b);
  less = less_than (suc b - 1 - a % suc b) (suc b) (omega arith);
}

-- where the divisor is not 0 it is the number that is given
number_given : (b : Bool) (at : Pos) (z n : ℤ) → b ≡ false → (if b then Wrong at kinds.Divisor else Gives (Number z)) ≡ Gives (Number n) → z ≡ n
number_given true at z n e f = absurd (let g : true ≡ false = e in cc)
number_given false at z n e f = let g : Gives (Number z) ≡ Gives (Number n) = f in cc

pub divisions_are_euclidean : DivisionsAreEuclidean
divisions_are_euclidean program at a b quotient remainder h e f =
    subst (λ (q : ℤ). IsDivision a b q remainder) (number_given (int_eq b (pos 0)) at (int_div_euclid a b) quotient h e)
    (subst (λ (r : ℤ). IsDivision a b (int_div_euclid a b) r) (number_given (int_eq b (pos 0)) at (int_rem_euclid a b) remainder h f) (euclid a b h))
