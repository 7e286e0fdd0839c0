-- Rows that are combinations, as lines of logs have them.
use Rattle.std.proofs.Common.{◌≡◌, ℕ, zero, suc, ◌+◌, ◌*◌, ◌/◌, ◌<◌, ℤ, pos, negsuc, ◌+ℤ◌, ◌*ℤ◌, int_le, true, ◌&&◌, cond, List, [], ◌∷◌, Some, None, slice_get, refl, sym, ap, subst, ◌∙◌, arith}
use Rattle.std.proofs.Math.Nat.{div-add-mod'}
use Rattle.std.proofs.lemmas.Nat.{div-mul-add}
use Rattle.std.proofs.lemmas.Nat.Gcd.{mod-eq-zero_of_dvd}
use Rattle.std.proofs.lemmas.Int.{ints}
use Rattle.std.proofs.lemmas.Bool.Decides.{Decides-int_eq}
use Rattle.std.specs.Int.{◌∣◌}
use Rattle.std.specs.Int.RustNames.{unsigned_abs}
use Rattle.std.specs.Option.{option_and_then}
use Rattle.std.specs.Ordering.{int_eq}
use Rattle.std.proofs.Math.IntN.{+ℤ_idl}
use Rattle.df_form.specs.declared.log.Multiple.{Multiple}
use Rattle.df_row.specs.Row.{Row, fits, constant_row}
use Rattle.df_row.specs.RowView.{IsNarrow}
use Rattle.df_row.specs.Linear.{sum_of, with_multiple, sum_from, quotient, divides, divided}
use Rattle.df_row.proofs.RowSums.{all_pass}
use Rattle.df_level.specs.Row.{weighted_row}
use Rattle.df_level.specs.Division.{IsContent, divisor_of, quotient_row}
use Rattle.df_level.specs.Way.{multiple_row, Comes}
use Rattle.df_level.proofs.Contents.{divisor_divides, some_divisor}

-- a number that the divisor divides
exact_natural : (d n : ℕ) → d ∣ n → n / d * d ≡ n
exact_natural d n h = let all = div-add-mod' n d in let none = mod-eq-zero_of_dvd d h in omega (arith)

some_factor : (q d n : ℕ) → q * d ≡ suc n → 0 < d → q ≡ suc (n / d)
some_factor zero d n e some = absurd (omega arith)
some_factor (suc p) (suc d) n e some =
    let rest : p * suc d + d ≡ n = omega arith in
    ap suc (sym (ap (λ k. k / suc d) (sym rest) ∙ div-mul-add p (suc d) d (omega arith)))
some_factor (suc p) zero n e some = absurd (omega arith)

times_positive : (d k : ℕ) → pos d *ℤ pos k ≡ pos (k * d)
times_positive d k = omega (arith, ints)

times_negative : (d k n : ℕ) → suc k * d ≡ suc n → pos d *ℤ negsuc k ≡ negsuc n
times_negative d k n e = omega (arith, ints)

exact_number : (d : ℕ) (z : ℤ) → 0 < d → d ∣ unsigned_abs z → pos d *ℤ quotient z (pos d) ≡ z
exact_number d (pos n) some h = times_positive d (n / d) ∙ ap pos (exact_natural d n h)
exact_number d (negsuc n) some h =
    let whole = exact_natural d (suc n) h in
    times_negative d (n / d) n (ap (λ k. k * d) (sym (some_factor (suc n / d) d n whole some)) ∙ whole)

one_at_most : (d : ℕ) → 0 < d → int_le (pos 1) (pos d) ≡ true
one_at_most d some = grind (arith, ints)

pub all_divided : (count d : ℕ) (row : Row) → 0 < d → ((n : ℕ) → d ∣ unsigned_abs (row.coefficient n)) → divides count (pos d) row ≡ true
all_divided count d row some h = rw (one_at_most d some, all_pass count (λ n. int_eq (pos d *ℤ quotient (row.coefficient n) (pos d)) (row.coefficient n)) (λ n. (Decides-int_eq (pos d *ℤ quotient (row.coefficient n) (pos d)) (row.coefficient n)).1 (exact_number d (row.coefficient n) some (h n)))) refl

-- a row divided by the divisor of its coefficients
pub content_divides : (count g : ℕ) (row : Row) → IsContent row.coefficient g → divided count (pos (divisor_of g)) row ≡ Some (quotient_row (divisor_of g) row)
content_divides count g row h = ap (λ t. cond t (Some (quotient_row (divisor_of g) row)) None) (all_divided count (divisor_of g) row (some_divisor g) (λ n. divisor_divides g (unsigned_abs (row.coefficient n)) (h.each n)))

-- a multiple more
with_one : (count : ℕ) (row other : Row) (f : ℤ) → int_le (pos 0) f ≡ true → IsNarrow (multiple_row f other) → IsNarrow (sum_of row f other) → with_multiple count row f (Some other) ≡ Some (sum_of row f other)
with_one count row other f some small sum = rw (some, all_pass count (λ n. fits (f *ℤ other.coefficient n) && fits (row.coefficient n +ℤ (f *ℤ other.coefficient n))) (λ n. rw (small.coefficients n) (sum.coefficients n)), small.constant, sum.constant) refl

first_sum : (f : ℤ) (row : Row) → sum_of (constant_row (pos 0)) f row ≡ multiple_row f row
first_sum f row = λ i. record { coefficient = λ n. +ℤ_idl (f *ℤ row.coefficient n) i; constant = +ℤ_idl (f *ℤ row.constant) i }

-- the sum of nothing and a multiple
pub with_first : (count : ℕ) (row : Row) (f : ℤ) → int_le (pos 0) f ≡ true → IsNarrow (multiple_row f row) → with_multiple count (constant_row (pos 0)) f (Some row) ≡ Some (multiple_row f row)
with_first count row f some small = with_one count (constant_row (pos 0)) row f some small (subst IsNarrow (sym (first_sum f row)) small) ∙ ap Some (first_sum f row)

module _ (rows : List Row) (f : ℤ) (i : ℕ) (first : Row) (at : slice_get rows i ≡ Some first) (some : int_le (pos 0) f ≡ true) (small : IsNarrow (multiple_row f first)) where
  pub one_sum : (count : ℕ) (others : List Multiple) → sum_from count rows (constant_row (pos 0)) (record { factor = f; row = i } ∷ others) ≡ sum_from count rows (multiple_row f first) others
  one_sum count others = ap (option_and_then (λ sum. sum_from count rows sum others)) (ap (with_multiple count (constant_row (pos 0)) f) at ∙ with_first count first f some small)

  -- the multiple of one row, divided
  pub one_comes : (g : ℕ) → IsContent (multiple_row f first).coefficient g → Comes rows (record { divisor = pos (divisor_of g); members = record { factor = f; row = i } ∷ [] }) (quotient_row (divisor_of g) (multiple_row f first))
  one_comes g h count = ap (option_and_then (divided count (pos (divisor_of g)))) (one_sum count []) ∙ content_divides count g (multiple_row f first) h

  module _ (k : ℤ) (j : ℕ) (second : Row) (at_other : slice_get rows j ≡ Some second) (some_other : int_le (pos 0) k ≡ true) (small_other : IsNarrow (multiple_row k second)) (small_sum : IsNarrow (weighted_row f first k second)) where
    two_sum : (count : ℕ) → sum_from count rows (constant_row (pos 0)) (record { factor = f; row = i } ∷ record { factor = k; row = j } ∷ []) ≡ Some (weighted_row f first k second)
    two_sum count = one_sum count (record { factor = k; row = j } ∷ []) ∙ ap (option_and_then (λ sum. sum_from count rows sum [])) (ap (with_multiple count (multiple_row f first) k) at_other ∙ with_one count (multiple_row f first) second k some_other small_other small_sum)

    -- the sum of two rows by factors, divided
    pub two_come : (g : ℕ) → IsContent (weighted_row f first k second).coefficient g → Comes rows (record { divisor = pos (divisor_of g); members = record { factor = f; row = i } ∷ record { factor = k; row = j } ∷ [] }) (quotient_row (divisor_of g) (weighted_row f first k second))
    two_come g h count = ap (option_and_then (divided count (pos (divisor_of g)))) (two_sum count) ∙ content_divides count g (weighted_row f first k second) h
