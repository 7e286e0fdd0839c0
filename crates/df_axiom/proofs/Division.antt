-- The quotient and the remainder of formulas are those of division.
use Rattle.std.proofs.Common.{◌≡◌, ℕ, zero, suc, ℤ, pos, negsuc, ◌+ℤ◌, ◌*ℤ◌, ◌<ℤ◌, int_le, Bool, true, false, if◌then◌else◌, subst, refl, sym, ap, ◌∙◌, arith}
use Rattle.std.proofs.lemmas.Int.{ints}
use Rattle.std.proofs.Math.IntN.{*ℤ_comm}
use Rattle.std.specs.Ordering.{int_eq}
use Rattle.std.specs.Int.{int_div_euclid, int_rem_euclid}
use Rattle.df_lemmas.proofs.Integers.{from_le}
use Rattle.df_meaning.specs.Division.{IsDivision}
use Rattle.df_meaning.proofs.Division.{euclid}
use Rattle.df_form.specs.Truth.{quotient, remainder}

divided : (x y : ℤ) → int_eq y (pos 0) ≡ false → IsDivision x y (quotient x y) (remainder x y)
divided x y e =
    let q : quotient x y ≡ int_div_euclid x y = ap (λ (b : Bool). if b then pos 0 else int_div_euclid x y) e in
    let r : remainder x y ≡ int_rem_euclid x y = ap (λ (b : Bool). if b then pos 0 else int_rem_euclid x y) e in
    subst (λ (z : ℤ). IsDivision x y z (remainder x y)) (sym q) (subst (λ (z : ℤ). IsDivision x y (int_div_euclid x y) z) (sym r) (euclid x y e))

pub parts_of : (x y : ℤ) → int_eq y (pos 0) ≡ false → x ≡ (y *ℤ quotient x y) +ℤ remainder x y
parts_of x y e = (divided x y e).parts ∙ ap (λ (z : ℤ). z +ℤ remainder x y) (*ℤ_comm (quotient x y) y)

pub remainder_from_zero : (x y : ℤ) → int_eq y (pos 0) ≡ false → int_le (pos 0) (remainder x y) ≡ true
remainder_from_zero x y e = from_le (remainder x y) (divided x y e).not_negative

next_at_most : (r : ℤ) (n : ℕ) → r <ℤ pos n → int_le (r +ℤ pos 1) (pos n) ≡ true
next_at_most r n less = grind (arith, ints)

not_zero : (n : ℕ) → int_eq (pos (suc n)) (pos 0) ≡ false
not_zero n = grind (arith, ints)

pub remainder_under : (x y : ℤ) → int_le (pos 1) y ≡ true → int_le (remainder x y +ℤ pos 1) y ≡ true
remainder_under x (pos zero) e = absurd (let f : false ≡ true = e in cc)
remainder_under x (pos (suc n)) e = next_at_most (remainder x (pos (suc n))) (suc n) (divided x (pos (suc n)) (not_zero n)).less
remainder_under x (negsuc n) e = absurd (let f : false ≡ true = e in cc)

opposite : (n : ℕ) → negsuc 0 *ℤ negsuc n ≡ pos (suc n)
opposite n = omega (arith, ints)

pub remainder_under_opposite : (x y : ℤ) → int_le y (negsuc 0) ≡ true → int_le (remainder x y +ℤ pos 1) (negsuc 0 *ℤ y) ≡ true
remainder_under_opposite x (pos n) e = absurd (let f : false ≡ true = e in cc)
remainder_under_opposite x (negsuc n) e = ap (int_le (remainder x (negsuc n) +ℤ pos 1)) (opposite n) ∙ next_at_most (remainder x (negsuc n)) (suc n) (divided x (negsuc n) refl).less
