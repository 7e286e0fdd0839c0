-- Linear arithmetic: rows of true literals are at least 0, so are their combinations, and no false row is.
use Rattle.std.proofs.Common.{◌≡◌, ℕ, zero, suc, ◌<◌, ℤ, pos, negsuc, ◌+ℤ◌, ◌*ℤ◌, int_le, int_eq, Bool, true, false, ◌&&◌, List, [], ◌∷◌, ◌++◌, map, length, Option, Some, None, slice_get, nat_lt, refl, sym, ap, ◌∙◌, arith, subst}
use Rattle.std.specs.Option.{option_and_then, option_map}
use Rattle.std.specs.List.{AllByRecursion}
use Rattle.std.proofs.lemmas.Int.{ints}
use Rattle.std.proofs.lemmas.Bool.Decides.{Decides-int_eq}
use Rattle.std.proofs.lemmas.Option.{same_Some}
use Rattle.std.proofs.Math.IntN.{+ℤ_idr, zero-*ℤ}
use Rattle.std.proofs.lemmas.Bool.{not-true, and_parts}
use Rattle.df_row.proofs.Sums.{no_sum, sum_scaled}
use Rattle.df_lemmas.proofs.Integers.{sum_times}
use Rattle.df_lemmas.proofs.Alls.{all_joined}
use Rattle.df_lemmas.proofs.Options.{then_some, map_some, test_some}
use Rattle.df_form.specs.World.{World}
use Rattle.df_meaning.specs.Value.{number_of, same_truth}
use Rattle.df_form.specs.declared.node.Sort.{Sort}
use Rattle.df_form.specs.declared.node.Sort.TheVariants as sorts
use Rattle.df_form.specs.declared.node.Op.{Op}
use Rattle.df_form.specs.declared.node.Op.TheVariants as ops
use Rattle.df_form.specs.declared.log.Lit.{Lit}
use Rattle.df_form.specs.declared.log.Multiple.{Multiple}
use Rattle.df_form.specs.Log.{Combination}
use Rattle.df_form.specs.Node.{Node}
use Rattle.df_form.specs.Sorting.{sort_at}
use Rattle.df_form.specs.Truth.{Assignment, truth}
use Rattle.df_form.specs.Clause.{Clause, negation, literal_truth, are_literals}
use Rattle.df_row.specs.Row.{Row, constant_row, difference}
use Rattle.df_row.specs.Linear.{one_row, two_rows, comparison_rows, rows_by_sort, rows_of_parts, rows_of_node, rows_of, all_below, sum_fits, sum_of, with_multiple, sum_from, quotient, divides, divided, combined, is_false, if_row, refutes, linear_of, linear_line}
use Rattle.df_row.specs.Value.{sum_below, row_value}
use Rattle.df_form.proofs.Values.{AreSorted, parts_taken, value_is}
use Rattle.df_form.proofs.Same.{values_alike}
use Rattle.df_rules.proofs.SoundClauses.{Holds, is_held, AllPass, holds_unless}
use Rattle.df_rules.proofs.SoundConnectives.{number_in, at_most_truth, equal_truth, each_below}
use Rattle.df_rules.proofs.SoundIntegers.{IsNatural, natural_by, natural_above, sum_of_naturals, no_natural, rounded, sum_added, all_below_at}
use Rattle.df_rules.proofs.SoundRows.{AreNumbers, linear, constant_value, difference_value}

module _ (count : ℕ) (v : ℕ → ℤ) where
  -- the row's value is at least 0
  abbrev pub IsMet : Row → Type 0
  IsMet row = IsNatural (row_value count v row)

  regroup : (s a b k c j : ℤ) → s ≡ a +ℤ (c *ℤ b) → c *ℤ (b +ℤ j) ≡ (c *ℤ b) +ℤ (c *ℤ j) → s +ℤ (k +ℤ (c *ℤ j)) ≡ (a +ℤ k) +ℤ (c *ℤ (b +ℤ j))
  regroup s a b k c j e f = omega (arith, ints)

  sum_value : (row other : Row) (factor : ℤ) → row_value count v (sum_of row factor other) ≡ row_value count v row +ℤ (factor *ℤ row_value count v other)
  sum_value row other factor =
      let mine = sum_below count (λ n. row.coefficient n *ℤ v n) in
      let its = sum_below count (λ n. other.coefficient n *ℤ v n) in
      regroup (sum_below count (λ n. (row.coefficient n +ℤ (factor *ℤ other.coefficient n)) *ℤ v n)) mine its row.constant factor other.constant
      (sum_added count row.coefficient other.coefficient v factor) (sum_times factor its other.constant)

  row_met : (rows : List Row) (n : ℕ) (row : Row) → AllByRecursion IsMet rows → slice_get rows n ≡ Some row → IsMet row
  row_met [] n row all e = absurd cc
  row_met (first ∷ others) zero row all e = subst IsMet (same_Some first row e) all.0
  row_met (first ∷ others) (suc n) row all e = row_met others n row all.1 e

  multiple_met : (row next : Row) (factor : ℤ) (o : Option Row) → IsMet row → ((other : Row) → o ≡ Some other → IsMet other) → with_multiple count row factor o ≡ Some next → IsMet next
  multiple_met row next factor None met its e = absurd cc
  multiple_met row next factor (Some other) met its e =
      let tested = test_some (int_le (pos 0) factor && sum_fits count row factor other) (Some (sum_of row factor other)) next e in
      let at_least = and_parts (int_le (pos 0) factor) (sum_fits count row factor other) tested.0 in
      subst IsMet (same_Some (sum_of row factor other) next tested.1)
      (subst IsNatural (sym (sum_value row other factor)) (sum_of_naturals (row_value count v row) (row_value count v other) factor met at_least.0 (its other refl)))

  sum_met : (rows : List Row) (row next : Row) (members : List Multiple) → AllByRecursion IsMet rows → IsMet row → sum_from count rows row members ≡ Some next → IsMet next
  sum_met rows row next [] all met e = subst IsMet (same_Some row next e) met
  sum_met rows row next (m ∷ others) all met e =
      let found = then_some (λ sum. sum_from count rows sum others) (with_multiple count row m.factor (slice_get rows m.row)) next e in
      sum_met rows found.0 next others all (multiple_met row found.0 m.factor (slice_get rows m.row) met (λ other is. row_met rows m.row other all is) found.1) found.2

  divided_by : (d : ℤ) (row : Row) → divides count d row ≡ true → IsMet row → IsNatural (sum_below count (λ n. quotient (row.coefficient n) d *ℤ v n) +ℤ quotient row.constant d)
  divided_by (pos d) row tested met =
      let parts = and_parts (int_le (pos 1) (pos d)) (all_below count (λ n. int_eq (pos d *ℤ quotient (row.coefficient n) (pos d)) (row.coefficient n))) tested in
      let positive : 0 < d = omega (arith, ints, parts.0) in
      let sum = sum_below count (λ n. quotient (row.coefficient n) (pos d) *ℤ v n) in
      let scaled = sum_scaled count row.coefficient (λ n. quotient (row.coefficient n) (pos d)) v (pos d)
      (λ n lt. (Decides-int_eq (pos d *ℤ quotient (row.coefficient n) (pos d)) (row.coefficient n)).0
      (all_below_at count (λ n. int_eq (pos d *ℤ quotient (row.coefficient n) (pos d)) (row.coefficient n)) parts.1 n lt)) in
      rounded d sum row.constant positive (subst (λ (z : ℤ). IsNatural (z +ℤ row.constant)) scaled met)
  divided_by (negsuc d) row tested met =
      let parts = and_parts (int_le (pos 1) (negsuc d)) (all_below count (λ n. int_eq (negsuc d *ℤ quotient (row.coefficient n) (negsuc d)) (row.coefficient n))) tested in
      absurd (no_divisor parts.0)
    where
      no_divisor : int_le (pos 1) (negsuc d) ≡ true → ⊥
      no_divisor e = cc

  divided_met : (d : ℤ) (row next : Row) → IsMet row → divided count d row ≡ Some next → IsMet next
  divided_met d row next met e =
      let tested = test_some (divides count d row) (Some (record { coefficient = λ n. quotient (row.coefficient n) d; constant = quotient row.constant d })) next e in
      subst IsMet (same_Some _ next tested.1) (divided_by d row tested.0 met)

  combined_met : (rows : List Row) (c : Combination) (next : Row) → AllByRecursion IsMet rows → combined count rows c ≡ Some next → IsMet next
  combined_met rows c next all e =
      let found = then_some (divided count c.divisor) (sum_from count rows (constant_row (pos 0)) c.members) next e in
      divided_met c.divisor found.0 next (sum_met rows (constant_row (pos 0)) found.0 c.members all (0, constant_value count v (pos 0)) found.1) found.2

  false_not_met : (row : Row) → is_false count row ≡ true → IsMet row → ⊥
  false_not_met row e met =
      let parts = and_parts (all_below count (λ n. int_eq (row.coefficient n) (pos 0))) (int_le row.constant (negsuc 0)) e in
      let none = no_sum count (λ n. row.coefficient n *ℤ v n) (λ n lt.
      ap (λ z. z *ℤ v n) ((Decides-int_eq (row.coefficient n) (pos 0)).0 (all_below_at count (λ n. int_eq (row.coefficient n) (pos 0)) parts.0 n lt)) ∙ zero-*ℤ (v n)) in
      no_natural row.constant (subst IsNatural (only_constant (sum_below count (λ n. row.coefficient n *ℤ v n)) row.constant none) met) parts.1
    where
      only_constant : (s k : ℤ) → s ≡ pos 0 → s +ℤ k ≡ k
      only_constant s k e = omega (arith, ints)

  pub rows_refuted : (rows : List Row) (combinations : List Combination) → AllByRecursion IsMet rows → refutes count rows combinations ≡ true → ⊥
  rows_refuted rows [] all e = cc
  rows_refuted rows (c ∷ []) all e = last (combined count rows c) refl e
    where
      last : (o : Option Row) → combined count rows c ≡ o → if_row o (is_false count) ≡ true → ⊥
      last None is e = cc
      last (Some row) is e = false_not_met row e (combined_met rows c row all is)
  rows_refuted rows (c ∷ next ∷ others) all e = step (combined count rows c) refl e (λ row met. rows_refuted (rows ++ row ∷ []) (next ∷ others) (all_joined IsMet rows (row ∷ []) all (met, tt)))
    where
      step : (o : Option Row) → combined count rows c ≡ o → if_row o (λ row. refutes count (rows ++ row ∷ []) (next ∷ others)) ≡ true
          → ((row : Row) → IsMet row → refutes count (rows ++ row ∷ []) (next ∷ others) ≡ true → ⊥) → ⊥
      step None is e go = cc
      step (Some row) is e go = go row (combined_met rows c row all is) e

module _ (depth : ℕ) (world : World) (assignment : Assignment) (nodes : List Node) (sorted : AreSorted nodes) where
  abbrev v : ℕ → ℤ
  v n = number_in depth world assignment nodes n

  abbrev pub Met : Row → Type 0
  Met row = IsMet (length nodes) v row

  pub numbers_are : AreNumbers nodes v
  numbers_are = record {
    literal = λ n k parts e. ap number_of (value_is depth world assignment nodes n (record { op = ops.Number k; parts = parts }) sorted e);
    plus = λ n a b e. ap number_of (value_is depth world assignment nodes n (record { op = ops.Plus; parts = a ∷ b ∷ [] }) sorted e);
    times = λ n a b e. ap number_of (value_is depth world assignment nodes n (record { op = ops.Times; parts = a ∷ b ∷ [] }) sorted e);
    below = λ n node e. each_below depth world assignment nodes n node sorted e;
  }

  -- a <= b, and a < b
  at_most_met : (a b : ℕ) (row : Row) → a < length nodes → b < length nodes → int_le (v a) (v b) ≡ true → difference nodes (length nodes) a b (pos 0) ≡ Some row → Met row
  at_most_met a b row p q le e =
      natural_by (row_value (length nodes) v row) (v a) (v b) (difference_value nodes v (linear nodes v numbers_are) a b (pos 0) row p q e ∙ +ℤ_idr (v b)) le

  less_met : (a b : ℕ) (row : Row) → a < length nodes → b < length nodes → int_le (v b) (v a) ≡ false → difference nodes (length nodes) a b (negsuc 0) ≡ Some row → Met row
  less_met a b row p q gt e = natural_above (row_value (length nodes) v row) (v a) (v b) (difference_value nodes v (linear nodes v numbers_are) a b (negsuc 0) row p q e) gt

  one_met : (o : Option Row) (rows : List Row) → ((row : Row) → o ≡ Some row → Met row) → one_row o ≡ Some rows → AllByRecursion Met rows
  one_met o rows met e =
      let found = map_some (λ (r : Row). r ∷ []) o rows e in
      subst (AllByRecursion Met) found.2 (met found.0 found.1, tt)

  two_met : (first second : Option Row) (rows : List Row) → ((row : Row) → first ≡ Some row → Met row) → ((row : Row) → second ≡ Some row → Met row) → two_rows first second ≡ Some rows → AllByRecursion Met rows
  two_met first second rows met its e =
      let one = then_some (λ r. option_map (λ s. r ∷ s ∷ []) second) first rows e in
      let other = map_some (λ (s : Row). one.0 ∷ s ∷ []) second rows one.2 in
      subst (AllByRecursion Met) other.2 (met one.0 one.1, (its other.0 other.1, tt))

  none_met : (rows : List Row) → Some [] ≡ Some rows → AllByRecursion Met rows
  none_met rows e = subst (AllByRecursion Met) (same_Some [] rows e) tt

  comparison_met : (n a b : ℕ) (positive : Bool) (op : Op) (rows : List Row) → slice_get nodes n ≡ Some (record { op = op; parts = a ∷ b ∷ [] }) → a < length nodes → b < length nodes → sort_at nodes a ≡ sorts.Number
      → same_truth positive (truth depth world assignment nodes n) ≡ true → comparison_rows nodes positive op a b ≡ Some rows → AllByRecursion Met rows
  comparison_met n a b true ops.AtMost rows at p q sort is e =
      one_met (difference nodes (length nodes) a b (pos 0)) rows (λ row found. at_most_met a b row p q (sym (at_most_truth depth world assignment nodes n a b sorted at) ∙ is) found) e
  comparison_met n a b false ops.AtMost rows at p q sort is e =
      one_met (difference nodes (length nodes) b a (negsuc 0)) rows (λ row found. less_met b a row q p (sym (at_most_truth depth world assignment nodes n a b sorted at) ∙ not-true (truth depth world assignment nodes n) is) found) e
  comparison_met n a b true ops.Equal rows at p q sort is e =
      let node : Node = record { op = ops.Equal; parts = a ∷ b ∷ [] } in
      let alike = values_alike (sort_at nodes a) (sort_at nodes b) (parts_taken nodes n node sorted at) in
      let equal = equal_truth depth world assignment nodes n a b sorted at (record { below = p; sort = sort }) (record { below = q; sort = sym alike ∙ sort }) in
      let ways = and_parts (int_le (v a) (v b)) (int_le (v b) (v a)) (sym equal ∙ is) in
      two_met (difference nodes (length nodes) a b (pos 0)) (difference nodes (length nodes) b a (pos 0)) rows (λ row found. at_most_met a b row p q ways.0 found) (λ row found. at_most_met b a row q p ways.1 found) e
  comparison_met n a b positive op rows at p q sort is e = none_met rows e

  by_sort : (n a b : ℕ) (positive : Bool) (op : Op) (sort : Sort) (rows : List Row) → slice_get nodes n ≡ Some (record { op = op; parts = a ∷ b ∷ [] }) → sort_at nodes a ≡ sort
      → same_truth positive (truth depth world assignment nodes n) ≡ true → rows_by_sort sort nodes positive op a b ≡ Some rows → AllByRecursion Met rows
  by_sort n a b positive op sorts.Number rows at sort is e = let are = linear nodes v numbers_are in let under = are.inside n a b op at in comparison_met n a b positive op rows at under.0 under.1 sort is e
  by_sort n a b positive op sorts.Truth rows at sort is e = none_met rows e
  by_sort n a b positive op sorts.Character rows at sort is e = none_met rows e

  parts_met : (n : ℕ) (positive : Bool) (op : Op) (parts : List ℕ) (rows : List Row) → slice_get nodes n ≡ Some (record { op = op; parts = parts })
      → same_truth positive (truth depth world assignment nodes n) ≡ true → rows_of_parts nodes positive op parts ≡ Some rows → AllByRecursion Met rows
  parts_met n positive op (a ∷ b ∷ []) rows at is e = by_sort n a b positive op (sort_at nodes a) rows at refl is e
  parts_met n positive op [] rows at is e = none_met rows e
  parts_met n positive op (a ∷ []) rows at is e = none_met rows e
  parts_met n positive op (a ∷ b ∷ c ∷ others) rows at is e = none_met rows e

  node_met : (n : ℕ) (positive : Bool) (o : Option Node) (rows : List Row) → slice_get nodes n ≡ o → same_truth positive (truth depth world assignment nodes n) ≡ true → rows_of_node nodes positive o ≡ Some rows → AllByRecursion Met rows
  node_met n positive None rows at is e = none_met rows e
  node_met n positive (Some node) rows at is e = parts_met n positive node.op node.parts rows at is e

  -- the rows of true literals
  literals_met : (literals : List Lit) (rows : List Row) → AllPass (is_held depth world assignment nodes) literals → rows_of nodes literals ≡ Some rows → AllByRecursion Met rows
  literals_met [] rows all e = none_met rows e
  literals_met (l ∷ others) rows all e =
      let one = then_some (λ found. option_map (λ more. found ++ more) (rows_of nodes others)) (rows_of_node nodes l.positive (slice_get nodes l.node)) rows e in
      let rest = map_some (λ (more : List Row). one.0 ++ more) (rows_of nodes others) rows one.2 in
      let held = and_parts (nat_lt l.node (length nodes)) (literal_truth (truth depth world assignment nodes) l) all.0 in
      subst (AllByRecursion Met) rest.2
      (all_joined Met one.0 rest.0 (node_met l.node l.positive (slice_get nodes l.node) one.0 refl held.1 one.1) (literals_met others rest.0 all.1 rest.1))

  pub linear_holds : (conclusion clause : Clause) (combinations : List Combination) → linear_line nodes conclusion combinations ≡ Some clause → Holds depth world assignment nodes clause
  linear_holds conclusion clause combinations e =
      let tested = test_some (are_literals nodes conclusion) (option_and_then (linear_of nodes conclusion combinations) (rows_of nodes (map negation conclusion))) clause e in
      let rows = then_some (linear_of nodes conclusion combinations) (rows_of nodes (map negation conclusion)) clause tested.1 in
      let found = test_some (refutes (length nodes) rows.0 combinations) (Some conclusion) clause rows.2 in
      subst (Holds depth world assignment nodes) (same_Some conclusion clause found.1)
      (holds_unless depth world assignment nodes conclusion tested.0 (λ all. rows_refuted (length nodes) v rows.0 combinations (literals_met (map negation conclusion) rows.0 all rows.1) found.0))
