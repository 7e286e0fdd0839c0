-- A row divided.
use Rattle.std.proofs.Common.{◌≡◌, ◌⊎◌, ⊎_elim, ℕ, ◌<◌, ◌≤◌, ℤ, pos, negsuc, ◌*ℤ◌, int_le, int_lt, Bool, true, false, ◌&&◌, cond, List, [], ◌∷◌, Option, Some, None, refl, sym, ap, ◌∙◌, arith}
use Rattle.std.proofs.Math.Nat.{zero-div}
use Rattle.std.proofs.lemmas.Int.{ints}
use Rattle.std.proofs.lemmas.Bool.{true≢false, cases_lt}
use Rattle.std.proofs.lemmas.Option.{cond_some, none-some}
use Rattle.std.specs.List.{list_all}
use Rattle.std.specs.List.Sorted.{IsStrictlySortedBy}
use Rattle.std.specs.Option.{option_and_then, is_some, unwrap_or}
use Rattle.std.specs.Ordering.{nat_cmp, int_eq}
use Rattle.std.specs.Int.{int_div_euclid}
use Rattle.std.specs.Map.{keys_of, values_of}
use Rattle.std.proofs.Math.IntN.{*ℤ-zero}
use Rattle.df_row.specs.declared.row.RowFault.{RowFault}
use Rattle.df_row.specs.declared.row.RowFault.TheVariants as faults
use Rattle.df_row.specs.Row.{Row, with_coefficient}
use Rattle.df_row.specs.RowView.{Fails, coefficient_at, IsWithin, exact}
use Rattle.df_row.specs.Linear.{all_below, quotient, divided}
use Rattle.df_row.proofs.RowFold.{each, each_some, each_none, nothing_yet, Outcome, found}
use Rattle.df_row.proofs.RowSums.{all_pass, one_stops}

-- the quotient of an entry in the place of what stood there
abbrev pub divide_step : ℤ → ℤ → ℤ → Option ℤ
divide_step divisor before v = exact v divisor

-- 0 divided
pub zero_quotient : (d : ℤ) → int_le (pos 1) d ≡ true → quotient (pos 0) d ≡ pos 0
zero_quotient (pos d) e = ap pos (zero-div d)
zero_quotient (negsuc d) e = refl

divides_zero : (d : ℤ) → int_le (pos 1) d ≡ true → int_eq (d *ℤ quotient (pos 0) d) (pos 0) ≡ true
divides_zero d e = rw (zero_quotient d e, *ℤ-zero d) refl

-- the constant, rounded down
pub rounded : (z d : ℤ) → int_le (pos 1) d ≡ true → int_div_euclid z d ≡ quotient z d
rounded (pos n) (pos d) e = refl
rounded (negsuc n) (pos d) e = refl
rounded z (negsuc d) e = absurd (true≢false (sym e))

module _ (divisor : ℤ) (all : List (ℕ × ℤ)) (k : ℤ) (low : int_le (pos 1) divisor ≡ true) (sorted : IsStrictlySortedBy nat_cmp (keys_of all)) where
  abbrev divided_row : Row
  divided_row = record { coefficient = coefficient_at all; constant = k }

  abbrev test : ℤ → Bool
  test v = int_eq (divisor *ℤ quotient v divisor) v

  outcome : (o : Option ℤ) (after : ℤ) → Outcome (divide_step divisor) o (pos 0) after → let v = unwrap_or o (pos 0) in (after ≡ quotient v divisor) × (test v ≡ true)
  outcome None after e = (e ∙ sym (zero_quotient divisor low), divides_zero divisor low)
  outcome (Some v) after e = let both = cond_some (test v) (quotient v divisor) after e in (sym both.1, both.0)

  pub divided_some : (count : ℕ) (quotients : List (ℕ × ℤ)) (c : ℤ) → each (divide_step divisor) all nothing_yet ≡ Some (coefficient_at quotients) → c ≡ quotient k divisor → divided count divisor divided_row ≡ Some (record { coefficient = coefficient_at quotients; constant = c })
  divided_some count quotients c e is = rw (low, all_pass count (λ n. test (coefficient_at all n)) (λ n. (at n).1)) (λ i. Some (record { coefficient = λ n. sym (at n).0 i; constant = sym is i }))
    where
      at : (n : ℕ) → (coefficient_at quotients n ≡ quotient (coefficient_at all n) divisor) × (test (coefficient_at all n) ≡ true)
      at n = outcome (found all n) (coefficient_at quotients n) (each_some (divide_step divisor) all nothing_yet (coefficient_at quotients) sorted e n)

  divided_none : (count : ℕ) → IsWithin count divided_row → each (divide_step divisor) all nothing_yet ≡ None → divided count divisor divided_row ≡ None
  divided_none count within e =
      let r = each_none (divide_step divisor) all nothing_yet sorted e in
      let stands : coefficient_at all r.at ≡ r.value = ap (λ o. unwrap_or o (pos 0)) r.stands in
      let bad : test (coefficient_at all r.at) ≡ false = ap test stands ∙ refused (test r.value) (quotient r.value divisor) r.none in
      rw (low, one_stops count (λ n. test (coefficient_at all n)) r.at (below r.at (cases_lt r.at count) bad) bad) refl
    where
      refused : (b : Bool) (x : ℤ) → cond b (Some x) None ≡ None → b ≡ false
      refused true x e = absurd (none-some x (sym e))
      refused false x e = refl

      below : (n : ℕ) → (n < count) ⊎ (count ≤ n) → test (coefficient_at all n) ≡ false → n < count
      below n c bad = ⊎_elim (λ h. h) (λ past. absurd (true≢false (sym (ap test (within.zero_from n past) ∙ divides_zero divisor low) ∙ bad))) c

  pub divided_fails : (fault : RowFault) (count : ℕ) → IsWithin count divided_row → Fails fault (each (divide_step divisor) all nothing_yet) → Fails fault (divided count divisor divided_row)
  divided_fails faults.Memory count within none = tt
  divided_fails faults.Refused count within none = divided_none count within none

-- a row with no coefficient but 0
abbrev is_zero : ℤ → Bool
is_zero v = int_eq v (pos 0)

abbrev zero_step : ℤ → ℤ → Option ℤ
zero_step before v = cond (is_zero v) (Some (pos 0)) None

zero_each : (es : List (ℕ × ℤ)) (c : ℕ → ℤ) → list_all is_zero (values_of es) ≡ is_some (each zero_step es c)
zero_each [] c = refl
zero_each ((k, v) ∷ es) c = by (is_zero v) (zero_each es (with_coefficient c k (pos 0)))
  where
    by : (b : Bool) → list_all is_zero (values_of es) ≡ is_some (each zero_step es (with_coefficient c k (pos 0))) → (b && list_all is_zero (values_of es)) ≡ is_some (option_and_then (λ z. each zero_step es (with_coefficient c k z)) (cond b (Some (pos 0)) None))
    by true e = e
    by false e = refl

module _ (all : List (ℕ × ℤ)) (k : ℤ) (count : ℕ) (sorted : IsStrictlySortedBy nat_cmp (keys_of all)) (within : IsWithin count (record { coefficient = coefficient_at all; constant = k })) where
  zero_at : (o : Option ℤ) (after : ℤ) → Outcome zero_step o (pos 0) after → is_zero (unwrap_or o (pos 0)) ≡ true
  zero_at None after e = refl
  zero_at (Some v) after e = (cond_some (is_zero v) (pos 0) after e).0

  pub all_zero : list_all is_zero (values_of all) ≡ all_below count (λ n. is_zero (coefficient_at all n))
  all_zero = zero_each all nothing_yet ∙ by (each zero_step all nothing_yet) refl
    where
      some : (after : ℕ → ℤ) → each zero_step all nothing_yet ≡ Some after → true ≡ all_below count (λ n. is_zero (coefficient_at all n))
      some after e = sym (all_pass count (λ n. is_zero (coefficient_at all n)) (λ n. zero_at (found all n) (after n) (each_some zero_step all nothing_yet after sorted e n)))

      refused : (b : Bool) → cond b (Some (pos 0)) None ≡ None → b ≡ false
      refused true e = absurd (none-some (pos 0) (sym e))
      refused false e = refl

      below : (n : ℕ) → (n < count) ⊎ (count ≤ n) → is_zero (coefficient_at all n) ≡ false → n < count
      below n c bad = ⊎_elim (λ h. h) (λ past. absurd (true≢false (sym (ap is_zero (within.zero_from n past)) ∙ bad))) c

      none : each zero_step all nothing_yet ≡ None → false ≡ all_below count (λ n. is_zero (coefficient_at all n))
      none e =
          let r = each_none zero_step all nothing_yet sorted e in
          let stands : coefficient_at all r.at ≡ r.value = ap (λ o. unwrap_or o (pos 0)) r.stands in
          let bad : is_zero (coefficient_at all r.at) ≡ false = ap is_zero stands ∙ refused (is_zero r.value) r.none in
          sym (one_stops count (λ n. is_zero (coefficient_at all n)) r.at (below r.at (cases_lt r.at count) bad) bad)

      by : (o : Option (ℕ → ℤ)) → each zero_step all nothing_yet ≡ o → is_some (each zero_step all nothing_yet) ≡ all_below count (λ n. is_zero (coefficient_at all n))
      by (Some after) e = ap is_some e ∙ some after e
      by None e = ap is_some e ∙ none e

pub negative : (z : ℤ) → int_lt z (pos 0) ≡ int_le z (negsuc 0)
negative (pos n) = grind (arith, ints)
negative (negsuc n) = grind (arith, ints)
