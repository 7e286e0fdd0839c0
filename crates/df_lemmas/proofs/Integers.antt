-- Products of integers, and the test against 0. Std has `+ℤ_idr`, `zero-*ℤ`, `*ℤ-zero`, `*ℤ_comm`.
use Rattle.std.proofs.Common.{◌≡◌, ℕ, ◌*◌, ℤ, pos, ◌+ℤ◌, ◌*ℤ◌, ◌≤ℤ◌, true, int_le, sym, ap, ◌∙◌, arith}
use Rattle.std.proofs.Math.IntN.{*ℤ_comm}
use Rattle.std.proofs.lemmas.Int.{ints}
use borrow.Author.Differences.{up, down, sum_is_lem, product_is}

pub times_over_sum : (a b c : ℤ) → (a +ℤ b) *ℤ c ≡ (a *ℤ c) +ℤ (b *ℤ c)
times_over_sum a b c = omega (arith, ints, ap (λ (z : ℕ). z * up c) (sum_is_lem a b), ap (λ (z : ℕ). z * down c) (sum_is_lem a b))

pub sum_times : (a b c : ℤ) → a *ℤ (b +ℤ c) ≡ (a *ℤ b) +ℤ (a *ℤ c)
sum_times a b c = omega (arith, ints, ap (λ (z : ℕ). up a * z) (sum_is_lem b c), ap (λ (z : ℕ). down a * z) (sum_is_lem b c))

pub times_twice : (a b c : ℤ) → (a *ℤ b) *ℤ c ≡ a *ℤ (b *ℤ c)
times_twice a b c =
    let left = product_is a b in
    let right = product_is b c in
    omega (
      arith,
      ints,
      ap (λ (z : ℕ). z * up c) left.0,
      ap (λ (z : ℕ). z * up c) left.1,
      ap (λ (z : ℕ). z * down c) left.0,
      ap (λ (z : ℕ). z * down c) left.1,
      ap (λ (z : ℕ). up a * z) right.0,
      ap (λ (z : ℕ). up a * z) right.1,
      ap (λ (z : ℕ). down a * z) right.0,
      ap (λ (z : ℕ). down a * z) right.1,
    )

pub swapped : (a b c : ℤ) → a *ℤ (b *ℤ c) ≡ b *ℤ (a *ℤ c)
swapped a b c = sym (times_twice a b c) ∙ ap (λ z. z *ℤ c) (*ℤ_comm a b) ∙ times_twice b a c

-- what is put in front of a sum that is some times another
pub regroup_scaled : (first second both more s : ℤ) → first ≡ second → both ≡ second +ℤ more → s ≡ more → first +ℤ s ≡ both
regroup_scaled first second both more s e f g = omega (arith, ints)

pub to_le : (z : ℤ) → int_le (pos 0) z ≡ true → pos 0 ≤ℤ z
to_le z e = grind (arith, ints)

pub from_le : (z : ℤ) → pos 0 ≤ℤ z → int_le (pos 0) z ≡ true
from_le z h = grind (arith, ints)
