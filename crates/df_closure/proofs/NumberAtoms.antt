-- Rows hold by the numbers of the atoms that are numbers.
use Rattle.std.proofs.Common.{◌≡◌, ℕ, suc, ◌<◌, ◌⊎◌, inl, inr, ℤ, pos, ◌+ℤ◌, ◌*ℤ◌, int_le, true, false, ◌&&◌, List, [], ◌∷◌, length, Some, slice_get, refl, sym, ap, ◌∙◌}
use Rattle.std.proofs.Math.IntN.{zero-*ℤ}
use Rattle.std.proofs.lemmas.Bool.Decides.{Decides-int_eq}
use Rattle.std.proofs.lemmas.Bool.{cases_Bool}
use Rattle.std.specs.Ordering.{int_eq}
use Rattle.df_lemmas.proofs.Lists.{get_below}
use Rattle.df_lemmas.proofs.Truths.{true_is_not_false}
use Rattle.df_form.specs.declared.log.Lit.{Lit}
use Rattle.df_form.specs.Node.{Node}
use Rattle.df_form.proofs.Values.{AreSorted}
use Rattle.df_row.specs.Row.{Row}
use Rattle.df_row.specs.Linear.{rows_of}
use Rattle.df_row.specs.Value.{row_value, rows_hold}
use Rattle.df_row.proofs.Sums.{same_sums}
use Rattle.df_closure.specs.Atoms.{AreAlikeNumbers}
use Rattle.df_closure.proofs.Coefficients.{numbers_alone}

-- a product by 0 is the same for all numbers
by_zero : (c a b : ℤ) → c ≡ pos 0 → c *ℤ a ≡ c *ℤ b
by_zero c a b e = ap (λ z. z *ℤ a) e ∙ zero-*ℤ a ∙ sym (zero-*ℤ b) ∙ ap (λ z. z *ℤ b) (sym e)

module _ (nodes : List Node) (sorted : AreSorted nodes) (x y : ℕ → ℤ) (alike : AreAlikeNumbers nodes x y) (literals : List Lit) (all : List Row) (found : rows_of nodes literals ≡ Some all) where
  same_product : (i : ℕ) (row : Row) → slice_get all i ≡ Some row → (n : ℕ) → n < length nodes → row.coefficient n *ℤ x n ≡ row.coefficient n *ℤ y n
  same_product i row at n less = by (cases_Bool (int_eq (row.coefficient n) (pos 0)))
    where
      by : (int_eq (row.coefficient n) (pos 0) ≡ true) ⊎ (int_eq (row.coefficient n) (pos 0) ≡ false) → row.coefficient n *ℤ x n ≡ row.coefficient n *ℤ y n
      by (inl none) = by_zero (row.coefficient n) (x n) (y n) ((Decides-int_eq (row.coefficient n) (pos 0)).0 none)
      by (inr some) =
          let has = numbers_alone nodes sorted literals all found i row at n (λ e. true_is_not_false (int_eq (row.coefficient n) (pos 0)) ((Decides-int_eq (row.coefficient n) (pos 0)).1 e) some) in
          let node = get_below nodes n less in
          ap (λ z. row.coefficient n *ℤ z) (alike n node.0 node.1 (has.2 node.0 node.1) has.1)

  same_value : (i : ℕ) (row : Row) → slice_get all i ≡ Some row → row_value (length nodes) x row ≡ row_value (length nodes) y row
  same_value i row at = ap (λ z. z +ℤ row.constant) (same_sums (length nodes) (λ n. row.coefficient n *ℤ x n) (λ n. row.coefficient n *ℤ y n) (same_product i row at))

  each_same : (rows : List Row) → ((i : ℕ) (row : Row) → slice_get rows i ≡ Some row → row_value (length nodes) x row ≡ row_value (length nodes) y row) → rows_hold (length nodes) x rows ≡ rows_hold (length nodes) y rows
  each_same [] each = refl
  each_same (row ∷ rows) each = (λ i. int_le (pos 0) (each 0 row refl i) && each_same rows (λ j other at. each (suc j) other at) i)

  pub rows_agree : rows_hold (length nodes) x all ≡ rows_hold (length nodes) y all
  rows_agree = each_same all same_value
