-- A row, and another one so many times.
use Rattle.std.proofs.Common.{◌≡◌, ◌⊎◌, ⊎_elim, ℕ, zero, suc, ◌<◌, ◌≤◌, ℤ, pos, ◌+ℤ◌, ◌*ℤ◌, int_le, Bool, true, false, ◌&&◌, cond, List, ◌∷◌, Option, Some, None, refl, sym, ap, subst, ◌∙◌, arith}
use Rattle.std.proofs.lemmas.Bool.{true≢false, and_from, cases_lt}
use Rattle.std.proofs.lemmas.Option.{cond_some, none-some}
use Rattle.std.specs.List.Sorted.{IsStrictlySortedBy}
use Rattle.std.specs.Option.{option_and_then, unwrap_or}
use Rattle.std.specs.Ordering.{nat_cmp}
use Rattle.std.specs.Map.{keys_of}
use Rattle.std.proofs.Math.IntN.{*ℤ-zero, +ℤ_idr}
use Rattle.std.proofs.Math.Bool.{and-false}
use Rattle.df_row.specs.declared.row.RowFault.{RowFault}
use Rattle.df_row.specs.declared.row.RowFault.TheVariants as faults
use Rattle.df_row.specs.Row.{Row, fits, with_coefficient}
use Rattle.df_row.specs.RowView.{Fails, narrow, if_fits, fitting_more, fitting_constant, coefficient_at, IsNarrow, IsWithin}
use Rattle.df_row.specs.Linear.{all_below, sum_of, with_multiple}
use Rattle.df_row.proofs.Rows.{passed, fails_on}
use Rattle.df_row.proofs.RowFold.{each, each_some, each_none, Outcome, found}

-- tests of all nodes below a count
pub all_pass : (count : ℕ) (test : ℕ → Bool) → ((n : ℕ) → test n ≡ true) → all_below count test ≡ true
all_pass zero test each = refl
all_pass (suc n) test each = rw (each n) (all_pass n test each)

last_or_less : (n count : ℕ) → n < suc count → (n ≡ count) ⊎ (n < count)
last_or_less n count h = grind arith

pub one_stops : (count : ℕ) (test : ℕ → Bool) (n : ℕ) → n < count → test n ≡ false → all_below count test ≡ false
one_stops zero test n h e = absurd (omega arith)
one_stops (suc count) test n h e = ⊎_elim (λ same. ap (λ t. t && all_below count test) (ap test (sym same) ∙ e)) (λ less. ap (λ t. test count && t) (one_stops count test n less e) ∙ and-false (test count)) (last_or_less n count h)

-- so many times an entry more
abbrev pub add_step : ℤ → ℤ → ℤ → Option ℤ
add_step factor before v = if_fits (factor *ℤ v) (narrow (before +ℤ (factor *ℤ v)))

-- the entries that are left give the rest of the sum
pub record IsSumming (factor : ℤ) (all left : List (ℕ × ℤ)) (start row : Row) : Type 0 where
  pub goes : each (add_step factor) left row.coefficient ≡ each (add_step factor) all start.coefficient
  pub constant : row.constant ≡ start.constant

-- both numbers on the way fit
abbrev fine : ℤ → ℤ → ℤ → Bool
fine factor before v = fits (factor *ℤ v) && fits (before +ℤ (factor *ℤ v))

if_both : {A : Type 0} (z : ℤ) (o : Option A) (x : A) → if_fits z o ≡ Some x → (fits z ≡ true) × (o ≡ Some x)
if_both z o x e = by (fits z) refl
  where
    by : (v : Bool) → fits z ≡ v → (fits z ≡ true) × (o ≡ Some x)
    by true v = (v, ap (λ t. cond t o None) (sym v) ∙ e)
    by false v = absurd (none-some x (ap (λ t. cond t o None) (sym v) ∙ e))

fine_at : (factor : ℤ) (o : Option ℤ) (before after : ℤ) → fits before ≡ true → Outcome (add_step factor) o before after → let v = unwrap_or o (pos 0) in (after ≡ before +ℤ (factor *ℤ v)) × (fine factor before v ≡ true)
fine_at factor None before after small e = (e ∙ sym (ap (λ z. before +ℤ z) (*ℤ-zero factor) ∙ +ℤ_idr before), rw (*ℤ-zero factor, +ℤ_idr before, small) refl)
fine_at factor (Some v) before after small e =
    let outer = if_both (factor *ℤ v) (narrow (before +ℤ (factor *ℤ v))) after e in
    let inner = cond_some (fits (before +ℤ (factor *ℤ v))) (before +ℤ (factor *ℤ v)) after outer.1 in
    (sym inner.1, and_from (fits (factor *ℤ v)) (fits (before +ℤ (factor *ℤ v))) outer.0 inner.0)

bad_at : (factor before v : ℤ) → add_step factor before v ≡ None → fine factor before v ≡ false
bad_at factor before v e = by (fits (factor *ℤ v)) (fits (before +ℤ (factor *ℤ v))) (before +ℤ (factor *ℤ v)) e
  where
    by : (a b : Bool) (z : ℤ) → cond a (cond b (Some z) None) None ≡ None → (a && b) ≡ false
    by true true z e = absurd (none-some z (sym e))
    by true false z e = refl
    by false b z e = refl

module _ (factor : ℤ) (all : List (ℕ × ℤ)) (k : ℤ) (start : Row) where
  -- the other row
  abbrev pub other_row : Row
  other_row = record { coefficient = coefficient_at all; constant = k }

  pub multiple_none : (count : ℕ) → IsStrictlySortedBy nat_cmp (keys_of all) → IsNarrow start → IsWithin count other_row → each (add_step factor) all start.coefficient ≡ None → with_multiple count start factor (Some other_row) ≡ None
  multiple_none count sorted small within e =
      let r = each_none (add_step factor) all start.coefficient sorted e in
      let stands : coefficient_at all r.at ≡ r.value = ap (λ o. unwrap_or o (pos 0)) r.stands in
      let bad : fine factor (start.coefficient r.at) (coefficient_at all r.at) ≡ false = ap (fine factor (start.coefficient r.at)) stands ∙ bad_at factor (start.coefficient r.at) r.value r.none in
      refuse (one_stops count (λ n. fine factor (start.coefficient n) (coefficient_at all n)) r.at (below r.at (cases_lt r.at count) bad) bad)
    where
      fine_zero : (n : ℕ) → count ≤ n → fine factor (start.coefficient n) (coefficient_at all n) ≡ true
      fine_zero n past = ap (fine factor (start.coefficient n)) (within.zero_from n past) ∙ (fine_at factor None (start.coefficient n) (start.coefficient n) (small.coefficients n) refl).1

      below : (n : ℕ) → (n < count) ⊎ (count ≤ n) → fine factor (start.coefficient n) (coefficient_at all n) ≡ false → n < count
      below n c bad = ⊎_elim (λ h. h) (λ past. absurd (true≢false (sym (fine_zero n past) ∙ bad))) c

      refuse : all_below count (λ n. fine factor (start.coefficient n) (coefficient_at all n)) ≡ false → with_multiple count start factor (Some other_row) ≡ None
      refuse stop = rw stop (no (int_le (pos 0) factor) (Some (sum_of start factor other_row)))
        where
          no : (a : Bool) (x : Option Row) → cond (a && false) x None ≡ None
          no true x = refl
          no false x = refl

  pub multiple_some : (count : ℕ) (row : Row) → IsStrictlySortedBy nat_cmp (keys_of all) → IsNarrow start → int_le (pos 0) factor ≡ true → each (add_step factor) all start.coefficient ≡ Some row.coefficient → row.constant ≡ start.constant → with_multiple count start factor (Some other_row) ≡ if_fits (factor *ℤ k) (fitting_constant (factor *ℤ k) row)
  multiple_some count row sorted small sign e same = rw (sign, all_pass count (λ n. fine factor (start.coefficient n) (coefficient_at all n)) passes) (both (fits (factor *ℤ k)) (fits (start.constant +ℤ (factor *ℤ k))) (fits (row.constant +ℤ (factor *ℤ k))) (Some (sum_of start factor other_row)) (Some (record { coefficient = row.coefficient; constant = row.constant +ℤ (factor *ℤ k) })) (ap (λ z. fits (z +ℤ (factor *ℤ k))) (sym same)) (ap Some rows))
    where
      at : (n : ℕ) → (row.coefficient n ≡ start.coefficient n +ℤ (factor *ℤ coefficient_at all n)) × (fine factor (start.coefficient n) (coefficient_at all n) ≡ true)
      at n = fine_at factor (found all n) (start.coefficient n) (row.coefficient n) (small.coefficients n) (each_some (add_step factor) all start.coefficient row.coefficient sorted e n)

      passes : (n : ℕ) → fine factor (start.coefficient n) (coefficient_at all n) ≡ true
      passes n = (at n).1

      rows : let r : Row = record { coefficient = row.coefficient; constant = row.constant +ℤ (factor *ℤ k) } in sum_of start factor other_row ≡ r
      rows = λ i. record { coefficient = λ n. sym (at n).0 i; constant = sym same i +ℤ (factor *ℤ k) }

      both : (a b b' : Bool) (x y : Option Row) → b ≡ b' → x ≡ y → cond ((true && (true && a)) && b) x None ≡ cond a (cond b' y None) None
      both true b b' x y p q = rw (p, q) refl
      both false b b' x y p q = refl

-- what does not fit is nothing
nothing : {A : Type 0} (b : Bool) → let none : Option A = None in cond b none none ≡ none
nothing true = refl
nothing false = refl

pub unfit : {A : Type 0} (z : ℤ) (o : Option A) → narrow z ≡ None → if_fits z o ≡ None
unfit z o e = by (fits z) e
  where
    by : (b : Bool) → cond b (Some z) None ≡ None → cond b o None ≡ None
    by true e = absurd (none-some z (sym e))
    by false e = refl

unmade : {A : Type 0} (b : Bool) (x : A) (z : ℤ) → cond b (Some x) None ≡ None → cond b (Some z) None ≡ None
unmade true x z e = absurd (none-some x (sym e))
unmade false x z e = refl

-- one entry more
module _ (factor : ℤ) (all : List (ℕ × ℤ)) (start row : Row) (k : ℕ) (v : ℤ) (left : List (ℕ × ℤ)) (z : ℤ) (is : z ≡ factor *ℤ v) (so_far : IsSumming factor all ((k, v) ∷ left) start row) where
  after_product : (more : ℤ) → narrow z ≡ Some more → (fits (factor *ℤ v) ≡ true) × (more ≡ factor *ℤ v)
  after_product more e = let both = cond_some (fits z) z more e in (ap fits (sym is) ∙ both.0, sym both.1 ∙ is)

  pub sum_goes : (more : ℤ) (new : Row) → narrow z ≡ Some more → passed more ≡ more → fitting_more k (passed more) row ≡ Some new → IsSumming factor all left start new
  sum_goes more new e same added =
      let product = after_product more e in
      let w : fitting_more k (factor *ℤ v) row ≡ Some new = ap (λ x. fitting_more k x row) (sym (same ∙ product.1)) ∙ added in
      let sum = row.coefficient k +ℤ (factor *ℤ v) in
      let inner = cond_some (fits sum) (record { coefficient = with_coefficient row.coefficient k sum; constant = row.constant }) new w in
      let step : add_step factor (row.coefficient k) v ≡ Some sum = rw (product.0, inner.0) refl in
      let here : each (add_step factor) ((k, v) ∷ left) row.coefficient ≡ each (add_step factor) left (with_coefficient row.coefficient k sum) = ap (option_and_then (λ x. each (add_step factor) left (with_coefficient row.coefficient k x))) step in
      record {
        goes = ap (λ (r : Row). each (add_step factor) left r.coefficient) (sym inner.1) ∙ sym here ∙ so_far.goes;
        constant = ap (λ (r : Row). r.constant) (sym inner.1) ∙ so_far.constant;
      }

  step_fails : (fault : RowFault) → Fails fault (add_step factor (row.coefficient k) v) → Fails fault (each (add_step factor) all start.coefficient)
  step_fails fault none = subst (Fails fault) so_far.goes (fails_on fault (λ x. each (add_step factor) left (with_coefficient row.coefficient k x)) (add_step factor (row.coefficient k) v) none)

  pub product_fails : (fault : RowFault) → Fails fault (narrow z) → Fails fault (each (add_step factor) all start.coefficient)
  product_fails faults.Memory none = tt
  product_fails faults.Refused none = step_fails faults.Refused (unfit (factor *ℤ v) (narrow (row.coefficient k +ℤ (factor *ℤ v))) (ap narrow (sym is) ∙ none))

  pub add_fails : (fault : RowFault) (more : ℤ) → narrow z ≡ Some more → passed more ≡ more → Fails fault (fitting_more k (passed more) row) → Fails fault (each (add_step factor) all start.coefficient)
  add_fails faults.Memory more e same none = tt
  add_fails faults.Refused more e same none =
      let product = after_product more e in
      let w : fitting_more k (factor *ℤ v) row ≡ None = ap (λ x. fitting_more k x row) (sym (same ∙ product.1)) ∙ none in
      let sum = row.coefficient k +ℤ (factor *ℤ v) in
      let wide : narrow sum ≡ None = unmade (fits sum) (record { coefficient = with_coefficient row.coefficient k sum; constant = row.constant }) sum w in
      step_fails faults.Refused (ap (if_fits (factor *ℤ v)) wide ∙ nothing (fits (factor *ℤ v)))

pub sum_fails : (fault : RowFault) (factor : ℤ) (all : List (ℕ × ℤ)) (k : ℤ) (start : Row) (count : ℕ) → IsStrictlySortedBy nat_cmp (keys_of all) → IsNarrow start → IsWithin count (other_row factor all k start) → Fails fault (each (add_step factor) all start.coefficient) → Fails fault (with_multiple count start factor (Some (other_row factor all k start)))
sum_fails faults.Memory factor all k start count sorted small within none = tt
sum_fails faults.Refused factor all k start count sorted small within none = multiple_none factor all k start count sorted small within none
