-- Rows have coefficients for atoms that are numbers, and for nothing else.
use Rattle.std.proofs.Common.{◌≡◌, ℕ, zero, suc, ◌<◌, ◌≤◌, ◌⊎◌, inl, inr, ℤ, pos, negsuc, ◌+ℤ◌, ◌*ℤ◌, Bool, true, false, ◌&&◌, cond, nat_eq, nat_lt, List, [], ◌∷◌, ◌++◌, map, length, Option, Some, None, slice_get, refl, sym, ap, ◌∙◌, arith, subst}
use Rattle.std.specs.Option.{is_none, option_map}
use Rattle.std.specs.List.{list_all, AllByRecursion}
use Rattle.std.proofs.lemmas.Option.{same_Some, slice_get_within}
use Rattle.std.proofs.lemmas.Bool.{eqb-true, eqb-false, and_parts}
use Rattle.df_closure.proofs.Atoms.{two_below}
use Rattle.df_lemmas.proofs.Alls.{all_joined}
use Rattle.df_lemmas.proofs.Options.{then_some, map_some}
use Rattle.df_form.specs.declared.log.Lit.{Lit}
use Rattle.df_form.specs.declared.node.Sort.{Sort}
use Rattle.df_form.specs.declared.node.Sort.TheVariants as sorts
use Rattle.df_form.specs.declared.node.Op.{Op}
use Rattle.df_form.specs.declared.node.Op.TheVariants as ops
use Rattle.df_form.specs.Node.{Node, same_sort}
use Rattle.df_form.specs.Sorting.{sort_at, takes}
use Rattle.df_row.specs.Row.{Row, constant_row, with_more, without, literal_number, with_product, expanded_parts, expanded_at, expanded_below, expanded_difference, difference}
use Rattle.df_row.specs.Linear.{one_row, two_rows, comparison_rows, rows_by_sort, rows_of_parts, rows_of_node, rows_of}
use Rattle.df_row.proofs.Rows.{narrow_row_is}
use Rattle.df_form.proofs.Values.{AreSorted, parts_below, parts_taken}
use Rattle.df_form.proofs.Making.{IsNumber}
use Rattle.df_form.proofs.Same.{same_sort_equal, values_alike}
use Rattle.df_closure.specs.Atoms.{is_atom}

-- the row after a step
after_more : (n : ℕ) (c : ℤ) (row : Row) (m : ℕ) → (m ≡ n) ⊎ ((with_more n c row).coefficient m ≡ row.coefficient m)
after_more n c row m = by (nat_eq m n) refl
  where
    by : (b : Bool) → nat_eq m n ≡ b → (m ≡ n) ⊎ ((with_more n c row).coefficient m ≡ row.coefficient m)
    by true same = inl (eqb-true m n same)
    by false other = inr (ap (λ t. cond t (row.coefficient n +ℤ c) (row.coefficient m)) other)

module _ (nodes : List Node) (sorted : AreSorted nodes) where
  abbrev IsAtomAt : ℕ → Type 0
  IsAtomAt n = (node : Node) → slice_get nodes n ≡ Some node → is_atom nodes node.op node.parts ≡ true

  -- a node that may have a coefficient where those from a number on are expanded
  pub record MayHave (from n : ℕ) : Type 0 where
    pub number : IsNumber nodes n
    pub atom : from ≤ n → IsAtomAt n

  -- no other node has one
  abbrev Keeps : ℕ → Row → Type 0
  Keeps from row = (n : ℕ) → (row.coefficient n ≡ pos 0) ⊎ MayHave from n

  moved : (from n : ℕ) (a b : ℤ) → b ≡ a → (a ≡ pos 0) ⊎ MayHave from n → (b ≡ pos 0) ⊎ MayHave from n
  moved from n a b e (inl zero_there) = inl (e ∙ zero_there)
  moved from n a b e (inr may) = inr may

  keeps_more : (from n : ℕ) (c : ℤ) (row : Row) → MayHave from n → Keeps from row → Keeps from (with_more n c row)
  keeps_more from n c row may h m = by (after_more n c row m)
    where
      by : (m ≡ n) ⊎ ((with_more n c row).coefficient m ≡ row.coefficient m) → ((with_more n c row).coefficient m ≡ pos 0) ⊎ MayHave from m
      by (inl same) = inr (subst (MayHave from) (sym same) may)
      by (inr other) = moved from m (row.coefficient m) ((with_more n c row).coefficient m) other (h m)

  later : (k n : ℕ) → (n ≡ k → IsAtomAt n) → MayHave (suc k) n → MayHave k n
  later k n here may = record { number = may.number; atom = λ le. by (split k n le) }
    where
      split : (k n : ℕ) → k ≤ n → (n ≡ k) ⊎ (suc k ≤ n)
      split k n le = grind arith

      by : (n ≡ k) ⊎ (suc k ≤ n) → IsAtomAt n
      by (inl same) = here same
      by (inr more) = may.atom more

  -- an atom stays as it is
  keeps_atom : (k : ℕ) (row : Row) → IsAtomAt k → Keeps (suc k) row → Keeps k row
  keeps_atom k row atom h n = by (h n)
    where
      by : (row.coefficient n ≡ pos 0) ⊎ MayHave (suc k) n → (row.coefficient n ≡ pos 0) ⊎ MayHave k n
      by (inl none) = inl none
      by (inr may) = inr (later k n (λ same. subst IsAtomAt (sym same) atom) may)

  keeps_without : (k : ℕ) (row : Row) → Keeps (suc k) row → Keeps k (without k row)
  keeps_without k row h n = by (nat_eq n k) refl (h n)
    where
      by : (b : Bool) → nat_eq n k ≡ b → (row.coefficient n ≡ pos 0) ⊎ MayHave (suc k) n → (cond (nat_eq n k) (pos 0) (row.coefficient n) ≡ pos 0) ⊎ MayHave k n
      by true same old = inl (ap (λ t. cond t (pos 0) (row.coefficient n)) same)
      by false other (inl none) = inl (ap (λ t. cond t (pos 0) (row.coefficient n)) other ∙ none)
      by false other (inr may) = inr (later k n (λ same. absurd (eqb-false n k other same)) may)

  -- a part of a sum or a product
  part_may : (k n : ℕ) → n < k → IsNumber nodes n → MayHave k n
  part_may k n less is = record { number = is; atom = λ le. absurd (omega (arith, less, le)) }

  two_numbers : (k a b : ℕ) → k < length nodes → list_all (λ part. nat_lt part k) (a ∷ b ∷ []) ≡ true → (same_sort (sort_at nodes a) sorts.Number && same_sort (sort_at nodes b) sorts.Number) ≡ true → MayHave k a × MayHave k b
  two_numbers k a b within below taken =
      let less = two_below k a b below in
      let alike = and_parts (same_sort (sort_at nodes a) sorts.Number) (same_sort (sort_at nodes b) sorts.Number) taken in (
        part_may k a less.0 (record { below = omega (arith, less.0); sort = same_sort_equal (sort_at nodes a) sorts.Number alike.0 }),
        part_may k b less.1 (record { below = omega (arith, less.1); sort = same_sort_equal (sort_at nodes b) sorts.Number alike.1 }),
      )

  keeps_product : (k b : ℕ) (c : ℤ) (o : Option ℤ) (row : Row) → (is_none o ≡ true → IsAtomAt k) → MayHave k b → Keeps (suc k) row → Keeps k (with_product c b o row (without k row))
  keeps_product k b c None row atom may h = keeps_atom k row (atom refl) h
  keeps_product k b c (Some z) row atom may h = keeps_more k b (c *ℤ z) (without k row) may (keeps_without k row h)

  keeps_parts : (k : ℕ) (c : ℤ) (op : Op) (parts : List ℕ) (row : Row) → k < length nodes → (is_atom nodes op parts ≡ true → IsAtomAt k) → list_all (λ part. nat_lt part k) parts ≡ true → takes op (map (sort_at nodes) parts) ≡ true → Keeps (suc k) row
      → Keeps k (expanded_parts nodes c op parts row (without k row))
  keeps_parts k c (ops.Number z) parts row within atom below taken h = keeps_without k row h
  keeps_parts k c ops.Plus (a ∷ b ∷ []) row within atom below taken h =
      let may = two_numbers k a b within below taken in
      keeps_more k b c (with_more a c (without k row)) may.1 (keeps_more k a c (without k row) may.0 (keeps_without k row h))
  keeps_parts k c ops.Times (a ∷ b ∷ []) row within atom below taken h =
      let may = two_numbers k a b within below taken in
      keeps_product k b c (literal_number (slice_get nodes a)) row atom may.1 h
  keeps_parts k c op parts row within atom below taken h = keeps_atom k row (atom refl) h

  keeps_at : (k : ℕ) (o : Option Node) (row : Row) → slice_get nodes k ≡ o → Keeps (suc k) row → Keeps k (expanded_at nodes k o row)
  keeps_at k None row at h = keeps_atom k row none h
    where
      none : IsAtomAt k
      none node there = absurd (let clash : Some node ≡ None = sym there ∙ at in cc)
  keeps_at k (Some node) row at h = keeps_parts k (row.coefficient k) node.op node.parts row (slice_get_within nodes k node at) is (parts_below nodes k node sorted at) (parts_taken nodes k node sorted at) h
    where
      is : is_atom nodes node.op node.parts ≡ true → IsAtomAt k
      is atom other there = subst (λ (x : Node). is_atom nodes x.op x.parts ≡ true) (same_Some node other (sym at ∙ there)) atom

  keeps_below : (k : ℕ) (row : Row) → Keeps k row → Keeps 0 (expanded_below nodes k row)
  keeps_below zero row h = h
  keeps_below (suc k) row h = keeps_below k (expanded_at nodes k (slice_get nodes k) row) (keeps_at k (slice_get nodes k) row refl h)

  difference_keeps : (a b : ℕ) (k : ℤ) (row : Row) → IsNumber nodes a → IsNumber nodes b → difference nodes (length nodes) a b k ≡ Some row → Keeps 0 row
  difference_keeps a b k row is_a is_b e =
      let count = length nodes in
      let first = with_more b (pos 1) (constant_row k) in
      let begun : Keeps count (constant_row k) = λ n. inl refl in
      let one = keeps_more count b (pos 1) (constant_row k) (part_may count b is_b.below is_b) begun in
      let two = keeps_more count a (negsuc 0) first (part_may count a is_a.below is_a) one in
      subst (Keeps 0) (sym (narrow_row_is count (expanded_difference nodes count a b k) row e).0) (keeps_below count (with_more a (negsuc 0) first) two)

  one_keeps : (o : Option Row) (rows : List Row) → ((row : Row) → o ≡ Some row → Keeps 0 row) → one_row o ≡ Some rows → AllByRecursion (Keeps 0) rows
  one_keeps o rows keeps e =
      let found = map_some (λ (r : Row). r ∷ []) o rows e in
      subst (AllByRecursion (Keeps 0)) found.2 (keeps found.0 found.1, tt)

  two_keep : (first second : Option Row) (rows : List Row) → ((row : Row) → first ≡ Some row → Keeps 0 row) → ((row : Row) → second ≡ Some row → Keeps 0 row) → two_rows first second ≡ Some rows → AllByRecursion (Keeps 0) rows
  two_keep first second rows keeps its e =
      let one = then_some (λ r. option_map (λ s. r ∷ s ∷ []) second) first rows e in
      let other = map_some (λ (s : Row). one.0 ∷ s ∷ []) second rows one.2 in
      subst (AllByRecursion (Keeps 0)) other.2 (keeps one.0 one.1, (its other.0 other.1, tt))

  none_keep : (rows : List Row) → Some [] ≡ Some rows → AllByRecursion (Keeps 0) rows
  none_keep rows e = subst (AllByRecursion (Keeps 0)) (same_Some [] rows e) tt

  op_keeps : (positive : Bool) (op : Op) (a b : ℕ) (rows : List Row) → IsNumber nodes a → b < length nodes → takes op (sort_at nodes a ∷ sort_at nodes b ∷ []) ≡ true → comparison_rows nodes positive op a b ≡ Some rows → AllByRecursion (Keeps 0) rows
  op_keeps true ops.AtMost a b rows is_a less taken e =
      let alike = (and_parts (same_sort (sort_at nodes a) sorts.Number) (same_sort (sort_at nodes b) sorts.Number) taken).1 in
      let is_b : IsNumber nodes b = record { below = less; sort = same_sort_equal (sort_at nodes b) sorts.Number alike } in
      one_keeps (difference nodes (length nodes) a b (pos 0)) rows (λ row found. difference_keeps a b (pos 0) row is_a is_b found) e
  op_keeps false ops.AtMost a b rows is_a less taken e =
      let alike = (and_parts (same_sort (sort_at nodes a) sorts.Number) (same_sort (sort_at nodes b) sorts.Number) taken).1 in
      let is_b : IsNumber nodes b = record { below = less; sort = same_sort_equal (sort_at nodes b) sorts.Number alike } in
      one_keeps (difference nodes (length nodes) b a (negsuc 0)) rows (λ row found. difference_keeps b a (negsuc 0) row is_b is_a found) e
  op_keeps true ops.Equal a b rows is_a less taken e =
      let is_b : IsNumber nodes b = record { below = less; sort = sym (values_alike (sort_at nodes a) (sort_at nodes b) taken) ∙ is_a.sort } in
      two_keep (difference nodes (length nodes) a b (pos 0)) (difference nodes (length nodes) b a (pos 0)) rows (λ row found. difference_keeps a b (pos 0) row is_a is_b found) (λ row found. difference_keeps b a (pos 0) row is_b is_a found) e
  op_keeps positive op a b rows is_a less taken e = none_keep rows e

  sort_keeps : (sort : Sort) (positive : Bool) (op : Op) (a b : ℕ) (rows : List Row) → sort_at nodes a ≡ sort → a < length nodes → b < length nodes → takes op (sort_at nodes a ∷ sort_at nodes b ∷ []) ≡ true → rows_by_sort sort nodes positive op a b ≡ Some rows → AllByRecursion (Keeps 0) rows
  sort_keeps sorts.Number positive op a b rows is less_a less_b taken e = op_keeps positive op a b rows (record { below = less_a; sort = is }) less_b taken e
  sort_keeps sorts.Truth positive op a b rows is less_a less_b taken e = none_keep rows e
  sort_keeps sorts.Character positive op a b rows is less_a less_b taken e = none_keep rows e

  parts_keep : (m : ℕ) (positive : Bool) (op : Op) (parts : List ℕ) (rows : List Row) → m < length nodes → list_all (λ part. nat_lt part m) parts ≡ true → takes op (map (sort_at nodes) parts) ≡ true → rows_of_parts nodes positive op parts ≡ Some rows → AllByRecursion (Keeps 0) rows
  parts_keep m positive op (a ∷ b ∷ []) rows within below taken e =
      let less = two_below m a b below in
      sort_keeps (sort_at nodes a) positive op a b rows refl (omega (arith, less.0)) (omega (arith, less.1)) taken e
  parts_keep m positive op [] rows within below taken e = none_keep rows e
  parts_keep m positive op (a ∷ []) rows within below taken e = none_keep rows e
  parts_keep m positive op (a ∷ b ∷ c ∷ others) rows within below taken e = none_keep rows e

  node_keeps : (positive : Bool) (n : ℕ) (o : Option Node) (rows : List Row) → slice_get nodes n ≡ o → rows_of_node nodes positive o ≡ Some rows → AllByRecursion (Keeps 0) rows
  node_keeps positive n None rows at e = none_keep rows e
  node_keeps positive n (Some node) rows at e = parts_keep n positive node.op node.parts rows (slice_get_within nodes n node at) (parts_below nodes n node sorted at) (parts_taken nodes n node sorted at) e

  literals_keep : (literals : List Lit) (rows : List Row) → rows_of nodes literals ≡ Some rows → AllByRecursion (Keeps 0) rows
  literals_keep [] rows e = none_keep rows e
  literals_keep (l ∷ others) rows e =
      let one = then_some (λ found. option_map (λ more. found ++ more) (rows_of nodes others)) (rows_of_node nodes l.positive (slice_get nodes l.node)) rows e in
      let rest = map_some (λ (more : List Row). one.0 ++ more) (rows_of nodes others) rows one.2 in
      subst (AllByRecursion (Keeps 0)) rest.2 (all_joined (Keeps 0) one.0 rest.0 (node_keeps l.positive l.node (slice_get nodes l.node) one.0 refl one.1) (literals_keep others rest.0 rest.1))

  each_keeps : (rows : List Row) (i : ℕ) (row : Row) → AllByRecursion (Keeps 0) rows → slice_get rows i ≡ Some row → Keeps 0 row
  each_keeps [] i row all at = absurd cc
  each_keeps (first ∷ rows) zero row all at = subst (Keeps 0) (same_Some first row at) all.0
  each_keeps (first ∷ rows) (suc i) row all at = each_keeps rows i row all.1 at

  pub numbers_alone : (literals : List Lit) (rows : List Row) → rows_of nodes literals ≡ Some rows → (i : ℕ) (row : Row) → slice_get rows i ≡ Some row → (n : ℕ) → (row.coefficient n ≡ pos 0 → ⊥) → (n < length nodes) × (sort_at nodes n ≡ sorts.Number) × IsAtomAt n
  numbers_alone literals rows e i row at n other = by (each_keeps rows i row (literals_keep literals rows e) at n)
    where
      by : (row.coefficient n ≡ pos 0) ⊎ MayHave 0 n → (n < length nodes) × (sort_at nodes n ≡ sorts.Number) × IsAtomAt n
      by (inl none) = absurd (other none)
      by (inr may) = (may.number.below, may.number.sort, may.atom (omega arith))
