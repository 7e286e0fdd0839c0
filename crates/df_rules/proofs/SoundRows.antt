-- The values of rows, and that expansion keeps them.
use Rattle.std.proofs.Common.{◌≡◌, ℕ, zero, suc, ◌<◌, ◌≤◌, ℤ, pos, negsuc, ◌+ℤ◌, ◌*ℤ◌, true, ◌&&◌, List, [], ◌∷◌, length, Option, Some, None, slice_get, nat_lt, refl, sym, ap, ◌∙◌, arith, ltb-true}
use Rattle.std.specs.List.{list_all}
use Rattle.std.proofs.lemmas.Int.{ints}
use Rattle.std.proofs.lemmas.Option.{same_Some}
use Rattle.std.proofs.lemmas.Bool.{and_parts}
use Rattle.std.proofs.Math.IntN.{zero-*ℤ}
use Rattle.df_row.proofs.Sums.{no_sum}
use Rattle.df_lemmas.proofs.Integers.{times_over_sum, sum_times, times_twice}
use Rattle.df_form.specs.declared.node.Op.{Op}
use Rattle.df_form.specs.declared.node.Op.TheVariants as ops
use Rattle.df_form.specs.Node.{Node}
use Rattle.df_row.specs.Row.{Row, with_coefficient, constant_row, with_more, with_constant, without, number_of_op, literal_number, with_product, expanded_parts, expanded_at, expanded_below, expanded_difference, difference}
use Rattle.df_row.specs.Value.{sum_below, row_value}
use Rattle.df_row.proofs.Rows.{narrow_row_is}
use Rattle.df_rules.proofs.SoundIntegers.{changed}

-- numbers that nodes have: a literal its own, a sum and a product those of their parts
pub record AreNumbers (nodes : List Node) (v : ℕ → ℤ) : Type 0 where
  pub literal : (n : ℕ) (k : ℤ) (parts : List ℕ) → slice_get nodes n ≡ Some (record { op = ops.Number k; parts = parts }) → v n ≡ k
  pub plus : (n a b : ℕ) → slice_get nodes n ≡ Some (record { op = ops.Plus; parts = a ∷ b ∷ [] }) → v n ≡ v a +ℤ v b
  pub times : (n a b : ℕ) → slice_get nodes n ≡ Some (record { op = ops.Times; parts = a ∷ b ∷ [] }) → v n ≡ v a *ℤ v b
  pub below : (n : ℕ) (node : Node) → slice_get nodes n ≡ Some node → list_all (λ part. nat_lt part (length nodes)) node.parts ≡ true

-- What of these counts for rows: a literal has its own number, a sum and a multiple by a literal have those of their parts; and
-- the parts of a node of two stand there too.
pub record AreLinear (nodes : List Node) (v : ℕ → ℤ) : Type 0 where
  pub literal : (n : ℕ) (k : ℤ) (parts : List ℕ) → slice_get nodes n ≡ Some (record { op = ops.Number k; parts = parts }) → v n ≡ k
  pub plus : (n a b : ℕ) → slice_get nodes n ≡ Some (record { op = ops.Plus; parts = a ∷ b ∷ [] }) → v n ≡ v a +ℤ v b
  pub multiple : (n a b : ℕ) (k : ℤ) → slice_get nodes n ≡ Some (record { op = ops.Times; parts = a ∷ b ∷ [] }) → literal_number (slice_get nodes a) ≡ Some k → v n ≡ k *ℤ v b
  pub inside : (n a b : ℕ) (op : Op) → slice_get nodes n ≡ Some (record { op = op; parts = a ∷ b ∷ [] }) → (a < length nodes) × (b < length nodes)

module _ (nodes : List Node) (v : ℕ → ℤ) (are : AreNumbers nodes v) where
  literal_found : (a : ℕ) (o : Option Node) (k : ℤ) → slice_get nodes a ≡ o → literal_number o ≡ Some k → v a ≡ k
  literal_found a None k e f = absurd cc
  literal_found a (Some node) k e f = by_op node.op node.parts e f
    where
      by_op : (op : Op) (parts : List ℕ) → slice_get nodes a ≡ Some (record { op = op; parts = parts }) → number_of_op op ≡ Some k → v a ≡ k
      by_op (ops.Number j) parts e f = are.literal a j parts e ∙ same_Some j k f
      by_op op parts e f = absurd cc

  multiple_of : (n a b : ℕ) (k : ℤ) → slice_get nodes n ≡ Some (record { op = ops.Times; parts = a ∷ b ∷ [] }) → literal_number (slice_get nodes a) ≡ Some k → v n ≡ k *ℤ v b
  multiple_of n a b k e is = are.times n a b e ∙ ap (λ z. z *ℤ v b) (literal_found a (slice_get nodes a) k refl is)

  -- the parts of a node of two stand there too
  pub two_below : (n a b : ℕ) (op : Op) → slice_get nodes n ≡ Some (record { op = op; parts = a ∷ b ∷ [] }) → (a < length nodes) × (b < length nodes)
  two_below n a b op e =
      let first = and_parts (nat_lt a (length nodes)) (nat_lt b (length nodes) && true) (are.below n (record { op = op; parts = a ∷ b ∷ [] }) e) in
      let second = and_parts (nat_lt b (length nodes)) true first.1 in
      (ltb-true a (length nodes) first.0, ltb-true b (length nodes) second.0)

  pub linear : AreLinear nodes v
  linear = record { literal = are.literal; plus = are.plus; multiple = multiple_of; inside = two_below }

module _ (count : ℕ) (v : ℕ → ℤ) where
  pub constant_value : (k : ℤ) → row_value count v (constant_row k) ≡ k
  constant_value k = let e = no_sum count (λ n. pos 0 *ℤ v n) (λ n lt. zero-*ℤ (v n)) in zero_more (sum_below count (λ n. pos 0 *ℤ v n)) e
    where
      zero_more : (s : ℤ) → s ≡ pos 0 → s +ℤ k ≡ k
      zero_more s e = omega (arith, ints)

  more : (k s t z y w : ℤ) → s +ℤ z ≡ t +ℤ w → w ≡ z +ℤ y → s +ℤ k ≡ (t +ℤ k) +ℤ y
  more k s t z y w e f = omega (arith, ints)

  pub more_value : (n : ℕ) (c : ℤ) (row : Row) → n < count → row_value count v (with_more n c row) ≡ row_value count v row +ℤ (c *ℤ v n)
  more_value n c row lt =
      let sum = row.coefficient n +ℤ c in
      more row.constant (sum_below count (λ m. with_coefficient row.coefficient n sum m *ℤ v m)) (sum_below count (λ m. row.coefficient m *ℤ v m)) (row.coefficient n *ℤ v n) (c *ℤ v n) (sum *ℤ v n)
      (changed count n row.coefficient sum v lt) (times_over_sum (row.coefficient n) c (v n))

  more_constant : (s k c : ℤ) → s +ℤ (k +ℤ c) ≡ (s +ℤ k) +ℤ c
  more_constant s k c = omega (arith, ints)

  constant_more_value : (c : ℤ) (row : Row) → row_value count v (with_constant c row) ≡ row_value count v row +ℤ c
  constant_more_value c row = more_constant (sum_below count (λ m. row.coefficient m *ℤ v m)) row.constant c

  less : (k s t z w : ℤ) → s +ℤ z ≡ t +ℤ w → w ≡ pos 0 → (s +ℤ k) +ℤ z ≡ t +ℤ k
  less k s t z w e f = omega (arith, ints)

  without_value : (n : ℕ) (row : Row) → n < count → row_value count v (without n row) +ℤ (row.coefficient n *ℤ v n) ≡ row_value count v row
  without_value n row lt =
      less row.constant (sum_below count (λ m. with_coefficient row.coefficient n (pos 0) m *ℤ v m)) (sum_below count (λ m. row.coefficient m *ℤ v m)) (row.coefficient n *ℤ v n) (pos 0 *ℤ v n)
      (changed count n row.coefficient (pos 0) v lt) (zero-*ℤ (v n))

module _ (nodes : List Node) (v : ℕ → ℤ) (are : AreLinear nodes v) where
  abbrev pub value : Row → ℤ
  value row = row_value (length nodes) v row

  with_constant_kept : (c k x : ℤ) (u row : Row) → x ≡ k → value u +ℤ (c *ℤ x) ≡ value row → value (with_constant (c *ℤ k) u) ≡ value row
  with_constant_kept c k x u row e f = constant_more_value (length nodes) v (c *ℤ k) u ∙ ap (λ z. value u +ℤ (c *ℤ z)) (sym e) ∙ f

  two_more : (a y z x s t u : ℤ) → s ≡ a +ℤ y → t ≡ s +ℤ z → a +ℤ x ≡ u → x ≡ y +ℤ z → t ≡ u
  two_more a y z x s t u e f g h = omega (arith, ints)

  plus_kept : (n a b : ℕ) (c : ℤ) (u row : Row) → a < length nodes → b < length nodes → v n ≡ v a +ℤ v b → value u +ℤ (c *ℤ v n) ≡ value row → value (with_more b c (with_more a c u)) ≡ value row
  plus_kept n a b c u row p q e f =
      two_more (value u) (c *ℤ v a) (c *ℤ v b) (c *ℤ v n) (value (with_more a c u)) (value (with_more b c (with_more a c u))) (value row)
      (more_value (length nodes) v a c u p) (more_value (length nodes) v b c (with_more a c u) q) f (ap (λ z. c *ℤ z) e ∙ sum_times c (v a) (v b))

  product_kept : (n b : ℕ) (c : ℤ) (o : Option ℤ) (u row : Row) → b < length nodes → ((k : ℤ) → o ≡ Some k → v n ≡ k *ℤ v b) → value u +ℤ (c *ℤ v n) ≡ value row → value (with_product c b o row u) ≡ value row
  product_kept n b c None u row q is f = refl
  product_kept n b c (Some k) u row q is f = more_value (length nodes) v b (c *ℤ k) u q ∙ ap (λ z. value u +ℤ z) (times_twice c k (v b) ∙ ap (λ z. c *ℤ z) (sym (is k refl))) ∙ f

  parts_kept : (n : ℕ) (c : ℤ) (op : Op) (parts : List ℕ) (u row : Row) → slice_get nodes n ≡ Some (record { op = op; parts = parts }) → value u +ℤ (c *ℤ v n) ≡ value row → value (expanded_parts nodes c op parts row u) ≡ value row
  parts_kept n c (ops.Number k) parts u row e f = with_constant_kept c k (v n) u row (are.literal n k parts e) f
  parts_kept n c ops.Plus (a ∷ b ∷ []) u row e f = let under = are.inside n a b ops.Plus e in plus_kept n a b c u row under.0 under.1 (are.plus n a b e) f
  parts_kept n c ops.Times (a ∷ b ∷ []) u row e f = let under = are.inside n a b ops.Times e in product_kept n b c (literal_number (slice_get nodes a)) u row under.1 (λ k is. are.multiple n a b k e is) f
  parts_kept n c op parts u row e f = refl

  at_kept : (n : ℕ) (o : Option Node) (row : Row) → slice_get nodes n ≡ o → n < length nodes → value (expanded_at nodes n o row) ≡ value row
  at_kept n None row e lt = refl
  at_kept n (Some node) row e lt = parts_kept n (row.coefficient n) node.op node.parts (without n row) row e (without_value (length nodes) v n row lt)

  below_kept : (n : ℕ) (row : Row) → n ≤ length nodes → value (expanded_below nodes n row) ≡ value row
  below_kept zero row le = refl
  below_kept (suc n) row le = below_kept n (expanded_at nodes n (slice_get nodes n) row) (omega arith) ∙ at_kept n (slice_get nodes n) row refl (omega arith)

  minus_one : (a : ℤ) → negsuc 0 *ℤ a +ℤ a ≡ pos 0
  minus_one a = omega (arith, ints)

  one_times : (a : ℤ) → pos 1 *ℤ a ≡ a
  one_times a = omega (arith, ints)

  moved : (r s t k a b x y : ℤ) → r ≡ s → s ≡ t +ℤ x → t ≡ k +ℤ y → x +ℤ a ≡ pos 0 → y ≡ b → r +ℤ a ≡ b +ℤ k
  moved r s t k a b x y e f g h i = omega (arith, ints)

  expanded_value : (a b : ℕ) (k : ℤ) → a < length nodes → b < length nodes → value (expanded_difference nodes (length nodes) a b k) +ℤ v a ≡ v b +ℤ k
  expanded_value a b k p q =
      let one = with_more b (pos 1) (constant_row k) in
      let two = with_more a (negsuc 0) one in
      let first = more_value (length nodes) v b (pos 1) (constant_row k) q in
      let second = more_value (length nodes) v a (negsuc 0) one p in
      moved (value (expanded_below nodes (length nodes) two)) (value two) (value one) k (v a) (v b) (negsuc 0 *ℤ v a) (pos 1 *ℤ v b)
      (below_kept (length nodes) two (omega arith)) second (first ∙ ap (λ z. z +ℤ (pos 1 *ℤ v b)) (constant_value (length nodes) v k)) (minus_one (v a)) (one_times (v b))

  -- what the row of a difference says
  pub difference_value : (a b : ℕ) (k : ℤ) (row : Row) → a < length nodes → b < length nodes → difference nodes (length nodes) a b k ≡ Some row → value row +ℤ v a ≡ v b +ℤ k
  difference_value a b k row p q e = ap (λ (r : Row). value r +ℤ v a) (narrow_row_is (length nodes) (expanded_difference nodes (length nodes) a b k) row e).0 ∙ expanded_value a b k p q
