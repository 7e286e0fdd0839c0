-- The value of a row, one entry after the other.
use Rattle.std.proofs.Common.{◌≡◌, ⊎_elim, ℕ, suc, ◌+◌, ◌<◌, ◌≤◌, ℤ, pos, ◌+ℤ◌, ◌*ℤ◌, Bool, true, false, List, [], ◌∷◌, Option, Some, None, cond, length, drop, get_or, add-one, refl, sym, ap, subst, ◌∙◌, arith}
use Rattle.std.proofs.Math.Seq.{drop-cons}
use Rattle.std.proofs.lemmas.Int.{ints}
use Rattle.std.proofs.lemmas.List.{drop_all}
use Rattle.std.proofs.lemmas.Bool.{true≢false, cases_lt}
use Rattle.df_row.specs.Row.{Row, fits}
use Rattle.std.proofs.lemmas.Option.{none-some, cond_some}
use Rattle.std.proofs.Math.IntN.{zero-*ℤ}
use Rattle.df_level.proofs.Rows.{first_coefficient, after_first}
use Rattle.df_row.specs.RowView.{narrow, IsWithin}
use Rattle.df_row.specs.Value.{sum_below, row_value}
use Rattle.df_level.specs.Entries.{coefficient_of, ascends, has_coefficient}
use Rattle.df_level.proofs.Ascending.{IsFrom, from_test, none_below}
use Rattle.df_back.specs.BackSubstitution.{IsWideSum, at_product, at_sum}
use Rattle.df_back.specs.Ranges.{TellsValue}
use Rattle.df_back.proofs.Integers.{skip_zeros}

-- the products of the nodes whose entries are passed, and the constant
pub record IsAdding (count : ℕ) (numbers : ℕ → ℤ) (row : Row) (left : List (ℕ × ℤ)) (sum : ℤ) : Type 0 where
  pub low : ℕ
  pub inside : low ≤ count
  pub from : IsFrom low left
  pub same : (n : ℕ) → low ≤ n → coefficient_of left n ≡ row.coefficient n
  pub is : sum ≡ sum_below low (λ n. row.coefficient n *ℤ numbers n) +ℤ row.constant

module _ (count : ℕ) (numbers : ℕ → ℤ) (row : Row) (within : IsWithin count row) where
  abbrev term : ℕ → ℤ
  term n = row.coefficient n *ℤ numbers n

  pub adding_begins : (all : List (ℕ × ℤ)) (sum : ℤ) → ascends 0 all ≡ true → coefficient_of all ≡ row.coefficient → sum ≡ row.constant → IsAdding count numbers row all sum
  adding_begins all sum e same is = record { low = 0; inside = omega arith; from = from_test 0 all e; same = λ n h. ap (λ (f : ℕ → ℤ). f n) same; is = is ∙ alone row.constant }
    where
      alone : (z : ℤ) → z ≡ pos 0 +ℤ z
      alone z = omega (arith, ints)

  no_term : (n : ℕ) → row.coefficient n ≡ pos 0 → term n ≡ pos 0
  no_term n e = ap (λ z. z *ℤ numbers n) e ∙ zero-*ℤ (numbers n)

  module _ (m : ℕ) (c : ℤ) (left : List (ℕ × ℤ)) (sum : ℤ) (so_far : IsAdding count numbers row ((m, c) ∷ left) sum) where
    here : row.coefficient m ≡ c
    here = sym (so_far.same m so_far.from.0) ∙ first_coefficient m c left

    pub entry_below : m < count
    entry_below = ⊎_elim (λ h. h) (λ past. absurd (true≢false (sym so_far.from.1 ∙ ap has_coefficient (sym here ∙ within.zero_from m past)))) (cases_lt m count)

    before : sum_below m term ≡ sum_below so_far.low term
    before = skip_zeros term so_far.low m so_far.from.0 (λ n at less. no_term n (sym (so_far.same n at) ∙ none_below m ((m, c) ∷ left) n (omega arith, so_far.from.1, so_far.from.2) less))

    with_term : sum_below (suc m) term +ℤ row.constant ≡ sum +ℤ (c *ℤ numbers m)
    with_term = next (term m) (c *ℤ numbers m) (sum_below m term) (sum_below so_far.low term) row.constant sum (ap (λ z. z *ℤ numbers m) here) before so_far.is
      where
        next : (x y s t k z : ℤ) → x ≡ y → s ≡ t → z ≡ t +ℤ k → (x +ℤ s) +ℤ k ≡ z +ℤ y
        next x y s t k z e f g = omega (arith, ints)

    pub adding_goes : (new : ℤ) → new ≡ sum +ℤ (c *ℤ numbers m) → IsAdding count numbers row left new
    adding_goes new e = record {
      low = suc m;
      inside = let less = entry_below in omega (arith, less);
      from = so_far.from.2;
      same = λ n h. sym (after_first m c left n (omega (arith, h))) ∙ so_far.same n (let le = so_far.from.0 in omega (arith, h, le));
      is = e ∙ sym with_term;
    }

    pub product_wide : fits (c *ℤ numbers m) ≡ false → IsWideSum count numbers row
    product_wide e = at_product m (ap (λ z. fits (z *ℤ numbers m)) here ∙ e)

    pub sum_wide : fits (sum +ℤ (c *ℤ numbers m)) ≡ false → IsWideSum count numbers row
    sum_wide e = at_sum (suc m) (let less = entry_below in omega (arith, less)) (ap fits with_term ∙ e)

  pub adding_ends : (sum : ℤ) → IsAdding count numbers row [] sum → sum ≡ row_value count numbers row
  adding_ends sum h = h.is ∙ ap (λ z. z +ℤ row.constant) (sym (skip_zeros term h.low count h.inside (λ n at less. no_term n (sym (h.same n at)))))

  -- by the place of the entry
  module _ (all : List (ℕ × ℤ)) (i : ℕ) (sum : ℤ) (so_far : IsAdding count numbers row (drop i all) sum) where
    pub done_at : length all ≤ i → sum ≡ row_value count numbers row
    done_at past = let P : List (ℕ × ℤ) → Type 0 = λ left. IsAdding count numbers row left sum in adding_ends sum (subst P (drop_all i all past) so_far)

    module _ (less : i < length all) where
      abbrev entry : ℕ × ℤ
      entry = get_or all i (0, pos 0)

      opened : IsAdding count numbers row (entry ∷ drop (suc i) all) sum
      opened = let P : List (ℕ × ℤ) → Type 0 = λ left. IsAdding count numbers row left sum in subst P (drop-cons all i (0, pos 0) less) so_far

      pub below_at : entry.0 < count
      below_at = entry_below entry.0 entry.1 (drop (suc i) all) sum opened

      pub goes_at : (product new : ℤ) → product ≡ entry.1 *ℤ numbers entry.0 → new ≡ sum +ℤ product → IsAdding count numbers row (drop (i + 1) all) new
      goes_at product new p e =
          let Q : ℕ → Type 0 = λ j. IsAdding count numbers row (drop j all) new in
          subst Q (sym (add-one i)) (adding_goes entry.0 entry.1 (drop (suc i) all) sum opened new (e ∙ ap (λ z. sum +ℤ z) p))

      pub product_wide_at : fits (entry.1 *ℤ numbers entry.0) ≡ false → IsWideSum count numbers row
      product_wide_at = product_wide entry.0 entry.1 (drop (suc i) all) sum opened

      pub sum_wide_at : (product : ℤ) → product ≡ entry.1 *ℤ numbers entry.0 → fits (sum +ℤ product) ≡ false → IsWideSum count numbers row
      sum_wide_at product p e = sum_wide entry.0 entry.1 (drop (suc i) all) sum opened (ap (λ z. fits (sum +ℤ z)) (sym p) ∙ e)

-- numbers of 128 bits
pub not_narrow : (z : ℤ) (o : Option ℤ) → o ≡ narrow z → o ≡ None → fits z ≡ false
not_narrow z o e none = by (fits z) (sym e ∙ none)
  where
    by : (b : Bool) → cond b (Some z) None ≡ None → b ≡ false
    by true h = absurd (none-some z (sym h))
    by false h = refl

pub narrowed : (z y : ℤ) (o : Option ℤ) → o ≡ narrow z → o ≡ Some y → y ≡ z
narrowed z y o e some = sym (cond_some (fits z) z y (sym e ∙ some)).1

pub tells_wide : (count : ℕ) (numbers : ℕ → ℤ) (row : Row) (o : Option ℤ) → o ≡ None → IsWideSum count numbers row → TellsValue count numbers row o
tells_wide count numbers row o e h = let P : Option ℤ → Type 0 = TellsValue count numbers row in subst P (sym e) h
