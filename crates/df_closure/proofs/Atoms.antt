-- Rows have coefficients for atoms alone.
use Rattle.std.proofs.Common.{◌≡◌, ℕ, zero, suc, ◌<◌, ◌≤◌, ◌⊎◌, inl, inr, ℤ, pos, negsuc, ◌+ℤ◌, ◌*ℤ◌, int_le, Bool, true, false, ◌&&◌, cond, nat_lt, List, [], ◌∷◌, ◌++◌, length, Option, Some, None, slice_get, refl, sym, ap, ◌∙◌, arith, subst, true≢false, ltb-true}
use Rattle.std.specs.Option.{is_none, option_map}
use Rattle.std.specs.List.{list_all, AllByRecursion}
use Rattle.std.proofs.lemmas.Option.{same_Some}
use Rattle.std.proofs.lemmas.Bool.{and_parts}
use Rattle.std.proofs.Math.IntN.{zero-*ℤ}
use Rattle.df_row.proofs.Sums.{same_sums}
use Rattle.df_lemmas.proofs.Numbers.{more_unequal, equal_self}
use Rattle.df_lemmas.proofs.Alls.{all_joined}
use Rattle.df_lemmas.proofs.Lists.{get_below}
use Rattle.df_lemmas.proofs.Options.{then_some, map_some}
use Rattle.df_form.specs.declared.log.Lit.{Lit}
use Rattle.df_form.specs.declared.node.Sort.{Sort}
use Rattle.df_form.specs.declared.node.Sort.TheVariants as sorts
use Rattle.df_form.specs.declared.node.Op.{Op}
use Rattle.df_form.specs.declared.node.Op.TheVariants as ops
use Rattle.df_form.specs.Node.{Node}
use Rattle.df_form.specs.Sorting.{sort_at}
use Rattle.df_row.specs.Row.{Row, constant_row, with_more, without, literal_number, with_product, expanded_parts, expanded_at, expanded_below, expanded_difference, difference}
use Rattle.df_row.specs.Linear.{one_row, two_rows, comparison_rows, rows_by_sort, rows_of_parts, rows_of_node, rows_of}
use Rattle.df_row.specs.Value.{row_value, rows_hold}
use Rattle.df_row.proofs.Rows.{narrow_row_is}
use Rattle.df_form.proofs.Values.{AreSorted, parts_below}
use Rattle.df_closure.specs.Atoms.{is_atom, AreAlike}

pub two_below : (n a b : ℕ) → list_all (λ part. nat_lt part n) (a ∷ b ∷ []) ≡ true → (a < n) × (b < n)
two_below n a b e =
    let first = and_parts (nat_lt a n) (nat_lt b n && true) e in
    let second = and_parts (nat_lt b n) true first.1 in
    (ltb-true a n first.0, ltb-true b n second.0)

-- steps that leave the coefficient of a node as it is
pub more_elsewhere : (n k : ℕ) (c : ℤ) (row : Row) → k < n → (with_more k c row).coefficient n ≡ row.coefficient n
more_elsewhere n k c row less = ap (λ t. cond t (row.coefficient k +ℤ c) (row.coefficient n)) (more_unequal n k less)

abbrev AreBelow : ℕ → List ℕ → Type 0
AreBelow m parts = list_all (λ part. nat_lt part m) parts ≡ true

module _ (nodes : List Node) (sorted : AreSorted nodes) where
  product_elsewhere : (n b : ℕ) (c : ℤ) (o : Option ℤ) (row taken : Row) → b < n → is_none o ≡ false → (with_product c b o row taken).coefficient n ≡ taken.coefficient n
  product_elsewhere n b c None row taken less other = absurd (true≢false other)
  product_elsewhere n b c (Some k) row taken less other = more_elsewhere n b (c *ℤ k) taken less

  parts_elsewhere : (n m : ℕ) (c : ℤ) (op : Op) (parts : List ℕ) (row taken : Row) → AreBelow m parts → m ≤ n → is_atom nodes op parts ≡ false → (expanded_parts nodes c op parts row taken).coefficient n ≡ taken.coefficient n
  parts_elsewhere n m c (ops.Number k) parts row taken below le other = refl
  parts_elsewhere n m c ops.Plus (a ∷ b ∷ []) row taken below le other =
      let less = two_below m a b below in
      more_elsewhere n b c (with_more a c taken) (omega (arith, less.1)) ∙ more_elsewhere n a c taken (omega (arith, less.0))
  parts_elsewhere n m c ops.Times (a ∷ b ∷ []) row taken below le other = let less = two_below m a b below in product_elsewhere n b c (literal_number (slice_get nodes a)) row taken (omega (arith, less.1)) other
  parts_elsewhere n m c op parts row taken below le other = absurd (true≢false other)

  product_kept : (b : ℕ) (c : ℤ) (o : Option ℤ) (row taken : Row) → is_none o ≡ true → with_product c b o row taken ≡ row
  product_kept b c None row taken atom = refl
  product_kept b c (Some k) row taken atom = absurd (true≢false (sym atom))

  atom_kept : (c : ℤ) (op : Op) (parts : List ℕ) (row taken : Row) → is_atom nodes op parts ≡ true → expanded_parts nodes c op parts row taken ≡ row
  atom_kept c (ops.Number k) parts row taken atom = absurd (true≢false (sym atom))
  atom_kept c ops.Plus (a ∷ b ∷ []) row taken atom = absurd (true≢false (sym atom))
  atom_kept c ops.Times (a ∷ b ∷ []) row taken atom = product_kept b c (literal_number (slice_get nodes a)) row taken atom
  atom_kept c op parts row taken atom = refl

  at_elsewhere : (n m : ℕ) (o : Option Node) (row : Row) → slice_get nodes m ≡ o → m < n → (expanded_at nodes m o row).coefficient n ≡ row.coefficient n
  at_elsewhere n m None row at less = refl
  at_elsewhere n m (Some node) row at less = by (is_atom nodes node.op node.parts) refl
    where
      by : (b : Bool) → is_atom nodes node.op node.parts ≡ b → (expanded_at nodes m (Some node) row).coefficient n ≡ row.coefficient n
      by true atom = ap (λ (r : Row). r.coefficient n) (atom_kept (row.coefficient m) node.op node.parts row (without m row) atom)
      by false other =
          parts_elsewhere n m (row.coefficient m) node.op node.parts row (without m row) (parts_below nodes m node sorted at) (omega (arith, less)) other
          ∙ ap (λ t. cond t (pos 0) (row.coefficient n)) (more_unequal n m less)

  -- the node stands for others
  abbrev IsOther : ℕ → Type 0
  IsOther n = (node : Node) × (slice_get nodes n ≡ Some node) × (is_atom nodes node.op node.parts ≡ false)

  at_clears : (n : ℕ) (row : Row) → IsOther n → (expanded_at nodes n (slice_get nodes n) row).coefficient n ≡ pos 0
  at_clears n row other =
      let node = other.0 in
      ap (λ o. (expanded_at nodes n o row).coefficient n) other.1
      ∙ parts_elsewhere n n (row.coefficient n) node.op node.parts row (without n row) (parts_below nodes n node sorted other.1) (omega arith) other.2
      ∙ ap (λ t. cond t (pos 0) (row.coefficient n)) (equal_self n)

  pub below_elsewhere : (k : ℕ) (row : Row) (n : ℕ) → k ≤ n → (expanded_below nodes k row).coefficient n ≡ row.coefficient n
  below_elsewhere zero row n le = refl
  below_elsewhere (suc k) row n le = below_elsewhere k (expanded_at nodes k (slice_get nodes k) row) n (omega arith) ∙ at_elsewhere n k (slice_get nodes k) row refl (omega arith)

  below_clears : (k : ℕ) (row : Row) (n : ℕ) → n < k → IsOther n → (expanded_below nodes k row).coefficient n ≡ pos 0
  below_clears zero row n less other = absurd (omega arith)
  below_clears (suc k) row n less other = next (split n k less) (below_clears k (expanded_at nodes k (slice_get nodes k) row) n)
    where
      split : (n k : ℕ) → n < suc k → (n < k) ⊎ (k ≡ n)
      split n k less = grind arith

      next : (n < k) ⊎ (k ≡ n) → (n < k → IsOther n → (expanded_below nodes (suc k) row).coefficient n ≡ pos 0) → (expanded_below nodes (suc k) row).coefficient n ≡ pos 0
      next (inl below) go = go below other
      next (inr same) go = below_elsewhere k (expanded_at nodes k (slice_get nodes k) row) n (omega arith) ∙ ap (λ m. (expanded_at nodes m (slice_get nodes m) row).coefficient n) same ∙ at_clears n row other

  -- no node but an atom has a coefficient
  abbrev IsClear : Row → Type 0
  IsClear row = (n : ℕ) → n < length nodes → IsOther n → row.coefficient n ≡ pos 0

  difference_clear : (a b : ℕ) (k : ℤ) (row : Row) → difference nodes (length nodes) a b k ≡ Some row → IsClear row
  difference_clear a b k row e n less other =
      ap (λ (r : Row). r.coefficient n) (narrow_row_is (length nodes) (expanded_difference nodes (length nodes) a b k) row e).0
      ∙ below_clears (length nodes) (with_more a (negsuc 0) (with_more b (pos 1) (constant_row k))) n less other

  one_clear : (o : Option Row) (rows : List Row) → ((row : Row) → o ≡ Some row → IsClear row) → one_row o ≡ Some rows → AllByRecursion IsClear rows
  one_clear o rows clear e =
      let found = map_some (λ (r : Row). r ∷ []) o rows e in
      subst (AllByRecursion IsClear) found.2 (clear found.0 found.1, tt)

  two_clear : (first second : Option Row) (rows : List Row) → ((row : Row) → first ≡ Some row → IsClear row) → ((row : Row) → second ≡ Some row → IsClear row) → two_rows first second ≡ Some rows → AllByRecursion IsClear rows
  two_clear first second rows clear its e =
      let one = then_some (λ r. option_map (λ s. r ∷ s ∷ []) second) first rows e in
      let other = map_some (λ (s : Row). one.0 ∷ s ∷ []) second rows one.2 in
      subst (AllByRecursion IsClear) other.2 (clear one.0 one.1, (its other.0 other.1, tt))

  none_clear : (rows : List Row) → Some [] ≡ Some rows → AllByRecursion IsClear rows
  none_clear rows e = subst (AllByRecursion IsClear) (same_Some [] rows e) tt

  op_clear : (positive : Bool) (op : Op) (a b : ℕ) (rows : List Row) → comparison_rows nodes positive op a b ≡ Some rows → AllByRecursion IsClear rows
  op_clear true ops.AtMost a b rows e = one_clear (difference nodes (length nodes) a b (pos 0)) rows (λ row found. difference_clear a b (pos 0) row found) e
  op_clear false ops.AtMost a b rows e = one_clear (difference nodes (length nodes) b a (negsuc 0)) rows (λ row found. difference_clear b a (negsuc 0) row found) e
  op_clear true ops.Equal a b rows e = two_clear (difference nodes (length nodes) a b (pos 0)) (difference nodes (length nodes) b a (pos 0)) rows (λ row found. difference_clear a b (pos 0) row found) (λ row found. difference_clear b a (pos 0) row found) e
  op_clear positive op a b rows e = none_clear rows e

  sort_clear : (sort : Sort) (positive : Bool) (op : Op) (a b : ℕ) (rows : List Row) → rows_by_sort sort nodes positive op a b ≡ Some rows → AllByRecursion IsClear rows
  sort_clear sorts.Number positive op a b rows e = op_clear positive op a b rows e
  sort_clear sorts.Truth positive op a b rows e = none_clear rows e
  sort_clear sorts.Character positive op a b rows e = none_clear rows e

  parts_clear : (positive : Bool) (op : Op) (parts : List ℕ) (rows : List Row) → rows_of_parts nodes positive op parts ≡ Some rows → AllByRecursion IsClear rows
  parts_clear positive op (a ∷ b ∷ []) rows e = sort_clear (sort_at nodes a) positive op a b rows e
  parts_clear positive op [] rows e = none_clear rows e
  parts_clear positive op (a ∷ []) rows e = none_clear rows e
  parts_clear positive op (a ∷ b ∷ c ∷ others) rows e = none_clear rows e

  node_clear : (positive : Bool) (o : Option Node) (rows : List Row) → rows_of_node nodes positive o ≡ Some rows → AllByRecursion IsClear rows
  node_clear positive None rows e = none_clear rows e
  node_clear positive (Some node) rows e = parts_clear positive node.op node.parts rows e

  literals_clear : (literals : List Lit) (rows : List Row) → rows_of nodes literals ≡ Some rows → AllByRecursion IsClear rows
  literals_clear [] rows e = none_clear rows e
  literals_clear (l ∷ others) rows e =
      let one = then_some (λ found. option_map (λ more. found ++ more) (rows_of nodes others)) (rows_of_node nodes l.positive (slice_get nodes l.node)) rows e in
      let rest = map_some (λ (more : List Row). one.0 ++ more) (rows_of nodes others) rows one.2 in
      subst (AllByRecursion IsClear) rest.2 (all_joined IsClear one.0 rest.0 (node_clear l.positive (slice_get nodes l.node) one.0 one.1) (literals_clear others rest.0 rest.1))

  module _ (x y : ℕ → ℤ) (alike : AreAlike nodes x y) where
    same_product : (row : Row) → IsClear row → (n : ℕ) → n < length nodes → row.coefficient n *ℤ x n ≡ row.coefficient n *ℤ y n
    same_product row clear n less = let at = get_below nodes n less in by at.0 at.1 (is_atom nodes at.0.op at.0.parts) refl
      where
        cleared : (c a b : ℤ) → c ≡ pos 0 → c *ℤ a ≡ c *ℤ b
        cleared c a b e = ap (λ z. z *ℤ a) e ∙ zero-*ℤ a ∙ sym (zero-*ℤ b) ∙ ap (λ z. z *ℤ b) (sym e)

        by : (node : Node) → slice_get nodes n ≡ Some node → (b : Bool) → is_atom nodes node.op node.parts ≡ b → row.coefficient n *ℤ x n ≡ row.coefficient n *ℤ y n
        by node at true atom = ap (λ z. row.coefficient n *ℤ z) (alike n node at atom)
        by node at false other = cleared (row.coefficient n) (x n) (y n) (clear n less (node, at, other))

    same_value : (row : Row) → IsClear row → row_value (length nodes) x row ≡ row_value (length nodes) y row
    same_value row clear = ap (λ z. z +ℤ row.constant) (same_sums (length nodes) (λ n. row.coefficient n *ℤ x n) (λ n. row.coefficient n *ℤ y n) (same_product row clear))

    clear_alike : (rows : List Row) → AllByRecursion IsClear rows → rows_hold (length nodes) x rows ≡ rows_hold (length nodes) y rows
    clear_alike [] all = refl
    clear_alike (row ∷ rows) all = (λ i. int_le (pos 0) (same_value row all.0 i) && clear_alike rows all.1 i)

    pub rows_alike : (literals : List Lit) (rows : List Row) → rows_of nodes literals ≡ Some rows → rows_hold (length nodes) x rows ≡ rows_hold (length nodes) y rows
    rows_alike literals rows e = clear_alike rows (literals_clear literals rows e)
