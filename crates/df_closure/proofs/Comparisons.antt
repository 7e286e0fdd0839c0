-- Rows hold at the numbers of nodes exactly where the comparisons are true that they are of.
use Rattle.std.proofs.Common.{◌≡◌, ℕ, ◌<◌, ◌⊎◌, inl, inr, ℤ, pos, negsuc, ◌+ℤ◌, int_le, Bool, true, false, not, ◌&&◌, List, [], ◌∷◌, ◌++◌, length, Option, Some, None, slice_get, refl, sym, ap, ◌∙◌, arith, true≢false}
use Rattle.std.specs.Option.{option_map}
use Rattle.std.proofs.lemmas.Int.{ints}
use Rattle.std.proofs.lemmas.List.Folds.{list_all-append}
use Rattle.std.proofs.lemmas.Option.{same_Some}
use Rattle.std.proofs.lemmas.Bool.{and_from, or_cases, or_left, or_right, and_parts}
use Rattle.df_form.proofs.Literals.{same_self}
use Rattle.df_lemmas.proofs.Options.{then_some, map_some}
use Rattle.df_form.specs.declared.log.Lit.{Lit}
use Rattle.df_form.specs.declared.node.Sort.{Sort}
use Rattle.df_form.specs.declared.node.Sort.TheVariants as sorts
use Rattle.df_form.specs.declared.node.Op.{Op}
use Rattle.df_form.specs.declared.node.Op.TheVariants as ops
use Rattle.df_form.specs.Node.{Node, same_sort}
use Rattle.df_form.specs.Sorting.{sort_at}
use Rattle.df_meaning.specs.Value.{same_truth}
use Rattle.df_form.specs.Clause.{same_literal, is_among, literal_truth}
use Rattle.df_row.specs.Row.{Row, difference}
use Rattle.df_row.specs.Value.{row_value, row_holds, rows_hold}
use Rattle.df_row.specs.Linear.{one_row, two_rows, comparison_rows, rows_by_sort, rows_of_parts, rows_of_node, rows_of}
use Rattle.df_form.proofs.Values.{AreSorted, parts_taken}
use Rattle.df_form.proofs.Same.{same_sort_equal}
use Rattle.df_rules.proofs.SoundClauses.{same_literal_is}
use Rattle.df_closure.specs.Comparisons.{IsComparison, at_most, equal, AreComparisonsTrue}
use Rattle.df_closure.specs.Reading.{IsReading}
use Rattle.df_rules.proofs.SoundRows.{difference_value}
use Rattle.df_closure.proofs.Expansions.{both_inside, exact_is_linear}
use Rattle.df_closure.proofs.Readings.{equal_is_both}

same_bools : (a b : Bool) → (a ≡ true → b ≡ true) → (b ≡ true → a ≡ true) → a ≡ b
same_bools true b there back = sym (there refl)
same_bools false true there back = back refl
same_bools false false there back = refl

-- 0 <= y - x, and 0 <= x - y - 1
at_least_difference : (z x y : ℤ) → z +ℤ x ≡ y +ℤ pos 0 → int_le (pos 0) z ≡ int_le x y
at_least_difference z x y e = same_bools (int_le (pos 0) z) (int_le x y) (there z x y e) (back z x y e)
  where
    there : (z x y : ℤ) → z +ℤ x ≡ y +ℤ pos 0 → int_le (pos 0) z ≡ true → int_le x y ≡ true
    there z x y e h = grind (arith, ints)

    back : (z x y : ℤ) → z +ℤ x ≡ y +ℤ pos 0 → int_le x y ≡ true → int_le (pos 0) z ≡ true
    back z x y e h = grind (arith, ints)

above_difference : (z x y : ℤ) → z +ℤ y ≡ x +ℤ negsuc 0 → int_le (pos 0) z ≡ not (int_le x y)
above_difference z x y e = by (int_le x y) refl (there z x y e) (back z x y e)
  where
    there : (z x y : ℤ) → z +ℤ y ≡ x +ℤ negsuc 0 → int_le x y ≡ true → int_le (pos 0) z ≡ false
    there z x y e h = grind (arith, ints)

    back : (z x y : ℤ) → z +ℤ y ≡ x +ℤ negsuc 0 → int_le x y ≡ false → int_le (pos 0) z ≡ true
    back z x y e h = grind (arith, ints)

    by : (b : Bool) → int_le x y ≡ b → (int_le x y ≡ true → int_le (pos 0) z ≡ false) → (int_le x y ≡ false → int_le (pos 0) z ≡ true) → int_le (pos 0) z ≡ not b
    by true is there back = there is
    by false is there back = back is

and_true : (b : Bool) → (b && true) ≡ b
and_true true = refl
and_true false = refl

module _ (nodes : List Node) (sorted : AreSorted nodes) (v : ℕ → ℤ) (t : ℕ → Bool) (reading : IsReading nodes v t) where
  abbrev Hold : List Row → Bool
  Hold rows = rows_hold (length nodes) v rows

  value_is : (a b : ℕ) (k : ℤ) (row : Row) → a < length nodes → b < length nodes → difference nodes (length nodes) a b k ≡ Some row → row_value (length nodes) v row +ℤ v a ≡ v b +ℤ k
  value_is a b k row p q e = difference_value nodes v (exact_is_linear nodes sorted v reading.exact) a b k row p q e

  up_to : (a b : ℕ) (row : Row) → a < length nodes → b < length nodes → difference nodes (length nodes) a b (pos 0) ≡ Some row → row_holds (length nodes) v row ≡ int_le (v a) (v b)
  up_to a b row p q e = at_least_difference (row_value (length nodes) v row) (v a) (v b) (value_is a b (pos 0) row p q e)

  above : (a b : ℕ) (row : Row) → a < length nodes → b < length nodes → difference nodes (length nodes) b a (negsuc 0) ≡ Some row → row_holds (length nodes) v row ≡ not (int_le (v a) (v b))
  above a b row p q e = above_difference (row_value (length nodes) v row) (v a) (v b) (value_is b a (negsuc 0) row q p e)

  one_holds : (o : Option Row) (rows : List Row) (b : Bool) → ((row : Row) → o ≡ Some row → row_holds (length nodes) v row ≡ b) → one_row o ≡ Some rows → Hold rows ≡ b
  one_holds o rows b is e =
      let found = map_some (λ (r : Row). r ∷ []) o rows e in
      ap Hold (sym found.2) ∙ and_true (row_holds (length nodes) v found.0) ∙ is found.0 found.1

  two_hold : (first second : Option Row) (rows : List Row) (b c : Bool) → ((row : Row) → first ≡ Some row → row_holds (length nodes) v row ≡ b) → ((row : Row) → second ≡ Some row → row_holds (length nodes) v row ≡ c) → two_rows first second ≡ Some rows
      → Hold rows ≡ (b && c)
  two_hold first second rows b c is its e =
      let one = then_some (λ r. option_map (λ s. r ∷ s ∷ []) second) first rows e in
      let other = map_some (λ (s : Row). one.0 ∷ s ∷ []) second rows one.2 in
      ap Hold (sym other.2) ∙ ap (λ d. row_holds (length nodes) v one.0 && d) (and_true (row_holds (length nodes) v other.0) ∙ its other.0 other.1) ∙ ap (λ d. d && c) (is one.0 one.1)

  -- the rows of a comparison hold where it is true
  at_most_same : (n a b : ℕ) (positive : Bool) (rows : List Row) → slice_get nodes n ≡ Some (record { op = ops.AtMost; parts = a ∷ b ∷ [] }) → comparison_rows nodes positive ops.AtMost a b ≡ Some rows → Hold rows ≡ same_truth positive (t n)
  at_most_same n a b true rows at e =
      let under = both_inside nodes sorted n a b ops.AtMost at in
      one_holds (difference nodes (length nodes) a b (pos 0)) rows (int_le (v a) (v b)) (λ row found. up_to a b row under.0 under.1 found) e ∙ sym (reading.at_most n a b at)
  at_most_same n a b false rows at e =
      let under = both_inside nodes sorted n a b ops.AtMost at in
      one_holds (difference nodes (length nodes) b a (negsuc 0)) rows (not (int_le (v a) (v b))) (λ row found. above a b row under.0 under.1 found) e ∙ ap not (sym (reading.at_most n a b at))

  equal_same : (n a b : ℕ) (rows : List Row) → slice_get nodes n ≡ Some (record { op = ops.Equal; parts = a ∷ b ∷ [] }) → sort_at nodes a ≡ sorts.Number → comparison_rows nodes true ops.Equal a b ≡ Some rows → Hold rows ≡ t n
  equal_same n a b rows at sort e =
      let under = both_inside nodes sorted n a b ops.Equal at in
      two_hold (difference nodes (length nodes) a b (pos 0)) (difference nodes (length nodes) b a (pos 0)) rows (int_le (v a) (v b)) (int_le (v b) (v a))
      (λ row found. up_to a b row under.0 under.1 found) (λ row found. up_to b a row under.1 under.0 found) e
      ∙ sym (reading.equal n a b at sort ∙ equal_is_both (v a) (v b))

  number_compared : (n a b : ℕ) → slice_get nodes n ≡ Some (record { op = ops.AtMost; parts = a ∷ b ∷ [] }) → sort_at nodes a ≡ sorts.Number
  number_compared n a b at =
      let parts = and_parts (same_sort (sort_at nodes a) sorts.Number) (same_sort (sort_at nodes b) sorts.Number) (parts_taken nodes n (record { op = ops.AtMost; parts = a ∷ b ∷ [] }) sorted at) in
      same_sort_equal (sort_at nodes a) sorts.Number parts.0

  none_hold : (rows : List Row) → Some [] ≡ Some rows → Hold rows ≡ true
  none_hold rows e = ap Hold (sym (same_Some [] rows e))

  -- a comparison is true where its rows hold
  comparison_true : (l : Lit) (own : List Row) → rows_of_node nodes l.positive (slice_get nodes l.node) ≡ Some own → Hold own ≡ true → IsComparison nodes l → literal_truth t l ≡ true
  comparison_true l own e holds (at_most a b at) =
      let opened = ap (λ (s : Sort). rows_by_sort s nodes l.positive ops.AtMost a b) (sym (number_compared l.node a b at)) ∙ ap (rows_of_node nodes l.positive) (sym at) ∙ e in
      sym (at_most_same l.node a b l.positive own at opened) ∙ holds
  comparison_true l own e holds (equal a b positive at sort) =
      let opened = ap (λ (s : Sort). rows_by_sort s nodes true ops.Equal a b) (sym sort) ∙ ap (λ p. rows_of_node nodes p (Some (record { op = ops.Equal; parts = a ∷ b ∷ [] }))) (sym positive) ∙ ap (rows_of_node nodes l.positive) (sym at) ∙ e in
      ap (λ p. same_truth p (t l.node)) positive ∙ sym (equal_same l.node a b own at sort opened) ∙ holds

  -- and its rows hold where it is true
  abbrev TrueIfCompared : ℕ → Bool → Type 0
  TrueIfCompared n positive = IsComparison nodes (record { positive = positive; node = n }) → same_truth positive (t n) ≡ true

  op_holds : (n a b : ℕ) (positive : Bool) (op : Op) (own : List Row) → slice_get nodes n ≡ Some (record { op = op; parts = a ∷ b ∷ [] }) → sort_at nodes a ≡ sorts.Number → TrueIfCompared n positive → comparison_rows nodes positive op a b ≡ Some own → Hold own ≡ true
  op_holds n a b true ops.AtMost own at sort is e = at_most_same n a b true own at e ∙ is (at_most a b at)
  op_holds n a b false ops.AtMost own at sort is e = at_most_same n a b false own at e ∙ is (at_most a b at)
  op_holds n a b true ops.Equal own at sort is e = equal_same n a b own at sort e ∙ is (equal a b refl at sort)
  op_holds n a b positive op own at sort is e = none_hold own e

  sort_holds : (n a b : ℕ) (positive : Bool) (op : Op) (sort : Sort) (own : List Row) → slice_get nodes n ≡ Some (record { op = op; parts = a ∷ b ∷ [] }) → sort_at nodes a ≡ sort → TrueIfCompared n positive → rows_by_sort sort nodes positive op a b ≡ Some own → Hold own ≡ true
  sort_holds n a b positive op sorts.Number own at sort is e = op_holds n a b positive op own at sort is e
  sort_holds n a b positive op sorts.Truth own at sort is e = none_hold own e
  sort_holds n a b positive op sorts.Character own at sort is e = none_hold own e

  parts_hold : (n : ℕ) (positive : Bool) (op : Op) (parts : List ℕ) (own : List Row) → slice_get nodes n ≡ Some (record { op = op; parts = parts }) → TrueIfCompared n positive → rows_of_parts nodes positive op parts ≡ Some own → Hold own ≡ true
  parts_hold n positive op (a ∷ b ∷ []) own at is e = sort_holds n a b positive op (sort_at nodes a) own at refl is e
  parts_hold n positive op [] own at is e = none_hold own e
  parts_hold n positive op (a ∷ []) own at is e = none_hold own e
  parts_hold n positive op (a ∷ b ∷ c ∷ others) own at is e = none_hold own e

  node_holds : (n : ℕ) (positive : Bool) (o : Option Node) (own : List Row) → slice_get nodes n ≡ o → TrueIfCompared n positive → rows_of_node nodes positive o ≡ Some own → Hold own ≡ true
  node_holds n positive None own at is e = none_hold own e
  node_holds n positive (Some node) own at is e = parts_hold n positive node.op node.parts own at is e

  pub comparisons_follow : (literals : List Lit) (rows : List Row) → rows_of nodes literals ≡ Some rows → Hold rows ≡ true → AreComparisonsTrue nodes t literals
  comparisons_follow [] rows e holds l among compared = absurd (true≢false (sym among))
  comparisons_follow (first ∷ others) rows e holds l among compared =
      let one = then_some (λ found. option_map (λ more. found ++ more) (rows_of nodes others)) (rows_of_node nodes first.positive (slice_get nodes first.node)) rows e in
      let rest = map_some (λ (more : List Row). one.0 ++ more) (rows_of nodes others) rows one.2 in
      let parts = and_parts (Hold one.0) (Hold rest.0) (sym (list_all-append (row_holds (length nodes) v) one.0 rest.0) ∙ ap Hold rest.2 ∙ holds) in
      next one.0 one.1 parts.0 (or_cases (same_literal l first) (is_among others l) among) (comparisons_follow others rest.0 rest.1 parts.1 l)
    where
      next : (own : List Row) → rows_of_node nodes first.positive (slice_get nodes first.node) ≡ Some own → Hold own ≡ true → (same_literal l first ≡ true) ⊎ (is_among others l ≡ true)
          → (is_among others l ≡ true → IsComparison nodes l → literal_truth t l ≡ true) → literal_truth t l ≡ true
      next own found holds (inl here) go =
          let same = same_literal_is l first here in
          comparison_true l own (ap (λ (m : Lit). rows_of_node nodes m.positive (slice_get nodes m.node)) same ∙ found) holds compared
      next own found holds (inr rest) go = go rest compared

  pub rows_follow : (literals : List Lit) (rows : List Row) → rows_of nodes literals ≡ Some rows → AreComparisonsTrue nodes t literals → Hold rows ≡ true
  rows_follow [] rows e are = none_hold rows e
  rows_follow (first ∷ others) rows e are =
      let one = then_some (λ found. option_map (λ more. found ++ more) (rows_of nodes others)) (rows_of_node nodes first.positive (slice_get nodes first.node)) rows e in
      let rest = map_some (λ (more : List Row). one.0 ++ more) (rows_of nodes others) rows one.2 in
      let own : Hold one.0 ≡ true = node_holds first.node first.positive (slice_get nodes first.node) one.0 refl (λ compared. are first (or_left (same_literal first first) (is_among others first) (same_self first)) compared) one.1 in
      let later : Hold rest.0 ≡ true = rows_follow others rest.0 rest.1 (λ l among compared. are l (or_right (same_literal l first) (is_among others l) among) compared) in
      ap Hold (sym rest.2) ∙ list_all-append (row_holds (length nodes) v) one.0 rest.0 ∙ and_from (Hold one.0) (Hold rest.0) own later

module _ (nodes : List Node) (sorted : AreSorted nodes) where
  -- a comparison has two parts
  pub two_parts : (l : Lit) (parts : List ℕ) → slice_get nodes l.node ≡ Some (record { op = ops.AtMost; parts = parts }) → IsComparison nodes l
  two_parts l (a ∷ b ∷ []) at = at_most a b at
  two_parts l [] at = absurd (true≢false (sym (parts_taken nodes l.node (record { op = ops.AtMost; parts = [] }) sorted at)))
  two_parts l (a ∷ []) at = absurd (true≢false (sym (parts_taken nodes l.node (record { op = ops.AtMost; parts = a ∷ [] }) sorted at)))
  two_parts l (a ∷ b ∷ c ∷ others) at = absurd (true≢false (sym (parts_taken nodes l.node (record { op = ops.AtMost; parts = a ∷ b ∷ c ∷ others }) sorted at)))
