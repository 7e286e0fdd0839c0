-- Exact sums made narrow.
use Rattle.std.proofs.Common.{◌≡◌, ◌⊎◌, ⊎_elim, ℕ, ◌<◌, ◌≤◌, ℤ, pos, Bool, true, false, cond, List, Option, Some, None, refl, sym, ap, ◌∙◌}
use Rattle.std.proofs.lemmas.Bool.{true≢false, cases_lt}
use Rattle.std.proofs.lemmas.Option.{cond_some, none-some}
use Rattle.std.specs.List.Sorted.{IsStrictlySortedBy}
use Rattle.std.specs.Option.{option_map_or}
use Rattle.std.specs.Ordering.{nat_cmp}
use Rattle.std.specs.Map.{keys_of}
use Rattle.df_integer.specs.declared.integer.Integer.{Integer}
use Rattle.df_integer.specs.Integer.{value, fits, narrow}
use Rattle.df_row.specs.Row.{Row, narrow_row}
use Rattle.df_row.specs.RowView.{coefficient_at, IsWithin}
use Rattle.df_row.specs.ExpansionView.{number_at}
use Rattle.df_row.proofs.RowFold.{each, each_some, each_none, nothing_yet, Outcome, found}
use Rattle.df_row.proofs.RowSums.{all_pass, one_stops}

-- the number of an entry, where it has 128 bits
abbrev pub narrow_step : ℤ → Integer → Option ℤ
narrow_step before i = narrow (value i)

refused : (b : Bool) (z : ℤ) → cond b (Some z) None ≡ None → b ≡ false
refused true z e = absurd (none-some z (sym e))
refused false z e = refl

pub unfit : (z : ℤ) → narrow z ≡ None → fits z ≡ false
unfit z e = refused (fits z) z e

module _ (all : List (ℕ × Integer)) (k : ℤ) (sorted : IsStrictlySortedBy nat_cmp (keys_of all)) where
  abbrev exact_row : Row
  exact_row = record { coefficient = number_at all; constant = k }

  outcome : (o : Option Integer) (after : ℤ) → Outcome narrow_step o (pos 0) after → let z = option_map_or value o (pos 0) in (after ≡ z) × (fits z ≡ true)
  outcome None after e = (e, refl)
  outcome (Some i) after e = let both = cond_some (fits (value i)) (value i) after e in (sym both.1, both.0)

  pub narrowed_some : (count : ℕ) (made : List (ℕ × ℤ)) (c : ℤ) → each narrow_step all nothing_yet ≡ Some (coefficient_at made) → narrow k ≡ Some c → narrow_row count exact_row ≡ Some (record { coefficient = coefficient_at made; constant = c })
  narrowed_some count made c e fitting =
      let constant = cond_some (fits k) k c fitting in
      rw (all_pass count (λ n. fits (number_at all n)) (λ n. (at n).1), constant.0) (λ i. Some (record { coefficient = λ n. sym (at n).0 i; constant = constant.1 i }))
    where
      at : (n : ℕ) → (coefficient_at made n ≡ number_at all n) × (fits (number_at all n) ≡ true)
      at n = outcome (found all n) (coefficient_at made n) (each_some narrow_step all nothing_yet (coefficient_at made) sorted e n)

  pub narrowed_fails : (count : ℕ) → IsWithin count exact_row → each narrow_step all nothing_yet ≡ None → narrow_row count exact_row ≡ None
  narrowed_fails count within e =
      let r = each_none narrow_step all nothing_yet sorted e in
      let stands : number_at all r.at ≡ value r.value = ap (λ o. option_map_or value o (pos 0)) r.stands in
      let bad : fits (number_at all r.at) ≡ false = ap fits stands ∙ unfit (value r.value) r.none in
      rw (one_stops count (λ n. fits (number_at all n)) r.at (below r.at (cases_lt r.at count) bad) bad) refl
    where
      below : (n : ℕ) → (n < count) ⊎ (count ≤ n) → fits (number_at all n) ≡ false → n < count
      below n c bad = ⊎_elim (λ h. h) (λ past. absurd (true≢false (sym (ap fits (within.zero_from n past)) ∙ bad))) c
