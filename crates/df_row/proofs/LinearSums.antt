-- Sums of multiples of rows, one multiple after another.
use Rattle.std.proofs.Common.{◌≡◌, ⊎_elim, ℕ, suc, ◌+◌, ◌<◌, ◌≤◌, ℤ, pos, ◌+ℤ◌, ◌*ℤ◌, int_le, Bool, true, false, ◌&&◌, List, length, drop, get_or, slice_get, Some, None, refl, sym, ap, subst, ◌∙◌, add-one}
use Rattle.std.proofs.Math.Seq.{drop-cons}
use Rattle.std.proofs.lemmas.Bool.{true≢false, and_parts, cases_lt}
use Rattle.std.proofs.lemmas.List.{drop_all}
use Rattle.std.proofs.lemmas.Option.{cond_some}
use Rattle.std.specs.Option.{option_and_then}
use Rattle.std.proofs.Math.IntN.{*ℤ-zero, +ℤ_idr}
use Rattle.df_form.specs.declared.log.Multiple.{Multiple}
use Rattle.df_row.specs.declared.row.RowFault.{RowFault}
use Rattle.df_row.specs.Row.{Row, fits, constant_row}
use Rattle.df_row.specs.RowView.{Fails, IsNarrow, IsWithin}
use Rattle.df_row.specs.Linear.{all_below, sum_fits, sum_of, with_multiple, sum_from, divided, combined}
use Rattle.df_form.specs.Log.{Combination}
use Rattle.df_row.proofs.Rows.{fails_on}
use Rattle.df_row.proofs.RowSums.{one_stops}

below_passes : (count : ℕ) (test : ℕ → Bool) (n : ℕ) → all_below count test ≡ true → n < count → test n ≡ true
below_passes count test n all less = by (test n) refl
  where
    by : (b : Bool) → test n ≡ b → test n ≡ true
    by true e = e
    by false e = absurd (true≢false (sym all ∙ one_stops count test n less e))

-- one multiple more
module _ (count : ℕ) (row other new : Row) (factor : ℤ) (e : with_multiple count row factor (Some other) ≡ Some new) (within : IsWithin count other) where
  abbrev test : ℕ → Bool
  test n = fits (factor *ℤ other.coefficient n) && fits (row.coefficient n +ℤ (factor *ℤ other.coefficient n))

  whole : (int_le (pos 0) factor && sum_fits count row factor other ≡ true) × (sum_of row factor other ≡ new)
  whole = cond_some (int_le (pos 0) factor && sum_fits count row factor other) (sum_of row factor other) new e

  fitting : sum_fits count row factor other ≡ true
  fitting = (and_parts (int_le (pos 0) factor) (sum_fits count row factor other) whole.0).1

  outer : (all_below count test && fits (factor *ℤ other.constant) ≡ true) × (fits (row.constant +ℤ (factor *ℤ other.constant)) ≡ true)
  outer = and_parts (all_below count test && fits (factor *ℤ other.constant)) (fits (row.constant +ℤ (factor *ℤ other.constant))) fitting

  passes : (n : ℕ) → n < count → test n ≡ true
  passes n less = below_passes count test n (and_parts (all_below count test) (fits (factor *ℤ other.constant)) outer.0).0 less

  past : (n : ℕ) → count ≤ n → row.coefficient n +ℤ (factor *ℤ other.coefficient n) ≡ row.coefficient n
  past n h = ap (λ z. row.coefficient n +ℤ (factor *ℤ z)) (within.zero_from n h) ∙ ap (λ z. row.coefficient n +ℤ z) (*ℤ-zero factor) ∙ +ℤ_idr (row.coefficient n)

  pub multiple_narrow : IsNarrow row → IsNarrow new
  multiple_narrow small = subst IsNarrow whole.1 (record { coefficients = λ n. ⊎_elim (λ less. (and_parts (fits (factor *ℤ other.coefficient n)) (fits (row.coefficient n +ℤ (factor *ℤ other.coefficient n))) (passes n less)).1) (λ h. ap fits (past n h) ∙ small.coefficients n) (cases_lt n count); constant = outer.1 })

  pub multiple_within : IsWithin count row → IsWithin count new
  multiple_within inside = subst (IsWithin count) whole.1 (record { zero_from = λ n h. past n h ∙ inside.zero_from n h })

-- the multiples that are left give the rest of the sum
pub record IsCombining (count : ℕ) (rows : List Row) (all : List Multiple) (i : ℕ) (sum : Row) : Type 0 where
  pub same : sum_from count rows sum (drop i all) ≡ sum_from count rows (constant_row (pos 0)) all
  pub small : IsNarrow sum
  pub within : IsWithin count sum

pub combining_starts : (count : ℕ) (rows : List Row) (all : List Multiple) (sum : Row) → sum ≡ constant_row (pos 0) → IsCombining count rows all 0 sum
combining_starts count rows all sum is = let P : Row → Type 0 = IsCombining count rows all 0 in subst P (sym is) (record { same = refl; small = record { coefficients = λ n. refl; constant = refl }; within = record { zero_from = λ n h. refl } })

-- what a read past the end would give
abbrev pub no_multiple : Multiple
no_multiple = record { factor = pos 0; row = 0 }

module _ (count : ℕ) (rows : List Row) (all : List Multiple) (i : ℕ) (sum : Row) (less : i < length all) (so_far : IsCombining count rows all i sum) where
  abbrev here : Multiple
  here = get_or all i no_multiple

  opened : sum_from count rows (constant_row (pos 0)) all ≡ option_and_then (λ s. sum_from count rows s (drop (suc i) all)) (with_multiple count sum here.factor (slice_get rows here.row))
  opened = sym so_far.same ∙ ap (sum_from count rows sum) (drop-cons all i no_multiple less)

  pub no_row : slice_get rows here.row ≡ None → sum_from count rows (constant_row (pos 0)) all ≡ None
  no_row none = opened ∙ ap (λ o. option_and_then (λ s. sum_from count rows s (drop (suc i) all)) (with_multiple count sum here.factor o)) none

  module _ (other : Row) (at : slice_get rows here.row ≡ Some other) where
    opened_at : sum_from count rows (constant_row (pos 0)) all ≡ option_and_then (λ s. sum_from count rows s (drop (suc i) all)) (with_multiple count sum here.factor (Some other))
    opened_at = opened ∙ ap (λ o. option_and_then (λ s. sum_from count rows s (drop (suc i) all)) (with_multiple count sum here.factor o)) at

    pub combining_fails : (fault : RowFault) → Fails fault (with_multiple count sum here.factor (Some other)) → Fails fault (sum_from count rows (constant_row (pos 0)) all)
    combining_fails fault none = subst (Fails fault) (sym opened_at) (fails_on fault (λ s. sum_from count rows s (drop (suc i) all)) (with_multiple count sum here.factor (Some other)) none)

    pub combining_goes : (new : Row) → IsWithin count other → with_multiple count sum here.factor (Some other) ≡ Some new → IsCombining count rows all (i + 1) new
    combining_goes new inside e = record {
      same = ap (λ k. sum_from count rows new (drop k all)) (add-one i) ∙ sym (opened_at ∙ ap (option_and_then (λ s. sum_from count rows s (drop (suc i) all))) e);
      small = multiple_narrow count sum other new here.factor e inside so_far.small;
      within = multiple_within count sum other new here.factor e inside so_far.within;
    }

-- the end of the sum, and its quotient
module _ (count : ℕ) (rows : List Row) (c : Combination) where
  pub combined_fails : (fault : RowFault) → Fails fault (sum_from count rows (constant_row (pos 0)) c.members) → Fails fault (combined count rows c)
  combined_fails fault none = fails_on fault (divided count c.divisor) (sum_from count rows (constant_row (pos 0)) c.members) none

  pub combined_is : (i : ℕ) (sum : Row) → length c.members ≤ i → IsCombining count rows c.members i sum → combined count rows c ≡ divided count c.divisor sum
  combined_is i sum past so_far = ap (option_and_then (divided count c.divisor)) (sym so_far.same ∙ ap (sum_from count rows sum) (drop_all i c.members past))
