-- Products of integers and their order, and codes of characters.
use Rattle.std.proofs.Common.{◌≡◌, ℕ, ◌*◌, ◌<◌, ℤ, pos, negsuc, ◌+ℤ◌, ◌-ℤ◌, ◌*ℤ◌, int_le, Bool, true, false, nat_lt, if◌then◌else◌, ap, ◌∙◌, arith, lt-ltb, ltb-true}
use Rattle.std.proofs.lemmas.Int.{ints}
use Rattle.df_lemmas.proofs.Integers.{from_le, times_over_sum}
use Rattle.df_form.specs.Truth.{code_in}

natural : (n : ℕ) → int_le (pos 0) (pos n) ≡ true
natural n = from_le (pos n) (omega (arith, ints))

pub product_from_zero : (x y : ℤ) → int_le (pos 0) x ≡ true → int_le (pos 0) y ≡ true → int_le (pos 0) (x *ℤ y) ≡ true
product_from_zero (pos a) (pos b) e f = natural (a * b)
product_from_zero (pos a) (negsuc b) e f = absurd (let g : false ≡ true = f in cc)
product_from_zero (negsuc a) y e f = absurd (let g : false ≡ true = e in cc)

-- how much more the second is
more : (x y : ℤ) → int_le x y ≡ true → (k : ℕ) × (y ≡ x +ℤ pos k)
more x y e = by (y -ℤ x) (omega (arith, ints))
  where
    by : (d : ℤ) → d +ℤ x ≡ y → (k : ℕ) × (y ≡ x +ℤ pos k)
    by (pos k) f = (k, omega (arith, ints))
    by (negsuc k) f = absurd (omega (arith, ints))

at_most_more : (a b : ℤ) (m : ℕ) → b ≡ a +ℤ pos m → int_le a b ≡ true
at_most_more a b m e = grind (arith, ints)

pub products_in_order : (x y z : ℤ) → int_le x y ≡ true → int_le (pos 0) z ≡ true → int_le (x *ℤ z) (y *ℤ z) ≡ true
products_in_order x y (pos c) e f =
    let d = more x y e in
    at_most_more (x *ℤ pos c) (y *ℤ pos c) (d.0 * c) (ap (λ (t : ℤ). t *ℤ pos c) d.1 ∙ times_over_sum x (pos d.0) (pos c))
products_in_order x y (negsuc c) e f = absurd (let g : false ≡ true = f in cc)

-- ---- codes

pub code_from_zero : (c : ℕ) → int_le (pos 0) (pos c) ≡ true
code_from_zero c = natural c

at_most_last : (c : ℕ) → c < 128 → int_le (pos c) (pos 127) ≡ true
at_most_last c less = grind (arith, ints)

pub code_at_most : (c : ℕ) → nat_lt c 128 ≡ true → int_le (pos c) (pos 127) ≡ true
code_at_most c e = at_most_last c (ltb-true c 128 e)

pub code_again : (c : ℕ) → nat_lt c 128 ≡ true → code_in (pos c) ≡ c
code_again c e = ap (λ (b : Bool). if b then c else 68) e

under_128 : (c : ℕ) → int_le (pos c) (pos 127) ≡ true → c < 128
under_128 c e = grind (arith, ints)

pub code_of_number : (x : ℤ) → int_le (pos 0) x ≡ true → int_le x (pos 127) ≡ true → pos (code_in x) ≡ x
code_of_number (pos c) e f = ap (λ (n : ℕ). pos n) (code_again c (lt-ltb c 128 (under_128 c f)))
code_of_number (negsuc c) e f = absurd (let g : false ≡ true = e in cc)
