-- Rows have greatest common divisors.
use Rattle.std.proofs.Common.{◌≡◌, ◌⊎◌, ⊎_elim, ℕ, zero, suc, ◌%◌, ◌<◌, ◌≤◌, ℤ, refl, sym, subst, arith}
use Rattle.std.proofs.lemmas.Nat.Gcd.{IsGcd-from_zero, IsGcd-from_mod, dvd-zero, dvd_trans}
use Rattle.std.specs.Int.{IsGcd, ◌∣◌}
use Rattle.std.specs.Int.RustNames.{unsigned_abs}
use Rattle.std.proofs.lemmas.Bool.{cases_lt}
use Rattle.df_row.specs.Row.{Row}
use Rattle.df_row.specs.RowView.{IsWithin}
use Rattle.df_level.specs.Division.{IsContent}

-- of two numbers
record HasGcd (a b : ℕ) : Type 0 where
  divisor : ℕ
  is : IsGcd a b divisor

gcd_by : (fuel a b : ℕ) → b ≤ fuel → HasGcd a b
gcd_by zero a b le = record { divisor = a; is = IsGcd-from_zero a b (omega arith) }
gcd_by (suc fuel) a zero le = record { divisor = a; is = IsGcd-from_zero a zero refl }
gcd_by (suc fuel) a (suc b) le =
    let rest = gcd_by fuel (suc b) (a % suc b) (omega arith) in
    record { divisor = rest.divisor; is = IsGcd-from_mod a (suc b) rest.divisor rest.is }

-- of the first coefficients
record HasContentBelow (count : ℕ) (f : ℕ → ℤ) : Type 0 where
  divisor : ℕ
  each : (n : ℕ) → n < count → divisor ∣ unsigned_abs (f n)
  greatest : (e : ℕ) → ((n : ℕ) → n < count → e ∣ unsigned_abs (f n)) → e ∣ divisor

content_below : (count : ℕ) (f : ℕ → ℤ) → HasContentBelow count f
content_below zero f = record { divisor = 0; each = λ n less. absurd (omega arith); greatest = λ e h. dvd-zero e }
content_below (suc count) f =
    let before = content_below count f in
    let both = gcd_by (unsigned_abs (f count)) before.divisor (unsigned_abs (f count)) (omega arith) in
    record {
      divisor = both.divisor;
      each = λ n less. ⊎_elim (λ below. dvd_trans both.divisor both.is.0 (before.each n below)) (λ e. let P : ℕ → Type 0 = λ m. both.divisor ∣ unsigned_abs (f m) in subst P (sym e) both.is.1) (sides n count less);
      greatest = λ e h. both.is.2 e (before.greatest e (λ n less. h n (omega arith))) (h count (omega arith));
    }
  where
    sides : (n count : ℕ) → n < suc count → (n < count) ⊎ (n ≡ count)
    sides n count less = grind arith

pub record HasContent (row : Row) : Type 0 where
  pub divisor : ℕ
  pub is : IsContent row.coefficient divisor

pub content_of : (count : ℕ) (row : Row) → IsWithin count row → HasContent row
content_of count row within =
    let found = content_below count row.coefficient in
    record { divisor = found.divisor; is = record { each = λ n. ⊎_elim (λ less. found.each n less) (λ past. let P : ℤ → Type 0 = λ z. found.divisor ∣ unsigned_abs z in subst P (sym (within.zero_from n past)) (dvd-zero found.divisor)) (cases_lt n count); greatest = λ e h. found.greatest e (λ n less. h n) } }
