-- More nodes leave rows as they are.
use Rattle.std.proofs.Common.{◌≡◌, ℕ, zero, suc, ◌+◌, ◌-◌, ◌<◌, ◌≤◌, ℤ, pos, negsuc, Bool, true, false, ◌&&◌, cond, nat_lt, List, [], ◌∷◌, ◌++◌, take, length, Option, Some, None, slice_get, refl, sym, ap, ◌∙◌, arith, subst, ltb-true}
use Rattle.std.proofs.lemmas.List.{take-append-le}
use Rattle.std.specs.Option.{option_and_then, option_map}
use Rattle.std.specs.List.{list_all}
use Rattle.std.proofs.lemmas.Option.{slice_get_within}
use Rattle.std.proofs.lemmas.Bool.{and_parts}
use Rattle.df_lemmas.proofs.Lists.{get_below}
use Rattle.df_form.specs.declared.log.Lit.{Lit}
use Rattle.df_form.specs.declared.node.Sort.{Sort}
use Rattle.df_form.specs.declared.node.Sort.TheVariants as sorts
use Rattle.df_form.specs.declared.node.Op.{Op}
use Rattle.df_form.specs.declared.node.Op.TheVariants as ops
use Rattle.df_form.specs.Node.{Node, same_sort}
use Rattle.df_form.specs.Clause.{are_literals}
use Rattle.df_form.specs.Sorting.{IsTable, sort_at, is_formula, is_well_sorted}
use Rattle.df_row.specs.Row.{Row, fits, constant_row, with_more, literal_number, with_product, without, expanded_parts, expanded_at, expanded_below, all_below, narrow_row, difference}
use Rattle.df_row.specs.Linear.{one_row, two_rows, comparison_rows, rows_by_sort, rows_of_parts, rows_of_node, rows_of}
use Rattle.df_row.proofs.Rows.{skip}
use Rattle.df_form.proofs.Values.{Grows, grown_get, grown_sort, grown_length, AreSorted, parts_below}
use Rattle.df_clause.proofs.Running.{grown_from}
use Rattle.df_closure.proofs.Atoms.{more_elsewhere, below_elsewhere, two_below}

-- a test that passes from a number on says the same of all nodes below a larger one
passes_by : (test : ℕ → Bool) (k d : ℕ) → ((n : ℕ) → k ≤ n → test n ≡ true) → all_below (d + k) test ≡ all_below k test
passes_by test k zero each = let e : 0 + k ≡ k = omega arith in ap (λ n. all_below n test) e
passes_by test k (suc d) each =
    let e : suc d + k ≡ suc (d + k) = omega arith in
    ap (λ n. all_below n test) e ∙ ap (λ b. b && all_below (d + k) test) (each (d + k) (omega arith)) ∙ passes_by test k d each

passes_later : (test : ℕ → Bool) (k n : ℕ) → k ≤ n → ((m : ℕ) → k ≤ m → test m ≡ true) → all_below n test ≡ all_below k test
passes_later test k n le each = let e : (n - k) + k ≡ n = omega arith in ap (λ m. all_below m test) (sym e) ∙ passes_by test k (n - k) each

module _ (nodes more : List Node) (g : Grows nodes more) where
  -- the nodes that stand first are sorted
  pub sorted_first : AreSorted more → AreSorted nodes
  sorted_first all = record { sorted = λ n node at. by n node at }
    where
      by : (n : ℕ) (node : Node) → slice_get nodes n ≡ Some node → is_well_sorted (take n nodes) node ≡ true
      by n node at =
          let within = slice_get_within nodes n node at in
          let le : n ≤ length nodes = omega (arith, within) in
          let same = ap (take n) g.is ∙ take-append-le n nodes g.more le in
          subst (λ (front : List Node). is_well_sorted front node ≡ true) same (all.sorted n node (grown_get nodes more g n node at))

  same_get : (n : ℕ) → n < length nodes → slice_get more n ≡ slice_get nodes n
  same_get n less = let at = get_below nodes n less in grown_get nodes more g n at.0 at.1 ∙ sym at.1

  module _ (sorted : AreSorted nodes) where
    same_parts : (m : ℕ) (c : ℤ) (op : Op) (parts : List ℕ) (row taken : Row) → m ≤ length nodes → list_all (λ part. nat_lt part m) parts ≡ true → expanded_parts more c op parts row taken ≡ expanded_parts nodes c op parts row taken
    same_parts m c (ops.Number k) parts row taken le below = refl
    same_parts m c ops.Plus (a ∷ b ∷ []) row taken le below = refl
    same_parts m c ops.Times (a ∷ b ∷ []) row taken le below =
        let less = two_below m a b below in
        ap (λ (o : Option Node). with_product c b (literal_number o) row taken) (same_get a (omega (arith, less.0)))
    same_parts m c op parts row taken le below = refl

    same_at : (n : ℕ) (row : Row) → n < length nodes → expanded_at more n (slice_get more n) row ≡ expanded_at nodes n (slice_get nodes n) row
    same_at n row less =
        let at = get_below nodes n less in
        ap (λ (o : Option Node). expanded_at more n o row) (grown_get nodes more g n at.0 at.1)
        ∙ same_parts n (row.coefficient n) at.0.op at.0.parts row (without n row) (omega (arith, less)) (parts_below nodes n at.0 sorted at.1)
        ∙ ap (λ (o : Option Node). expanded_at nodes n o row) (sym at.1)

    same_below : (n : ℕ) → n ≤ length nodes → (row : Row) → expanded_below more n row ≡ expanded_below nodes n row
    same_below zero le row = refl
    same_below (suc n) le row = ap (expanded_below more n) (same_at n row (omega arith)) ∙ same_below n (omega arith) (expanded_at nodes n (slice_get nodes n) row)

    -- the row has no coefficient of a later node
    abbrev EndsBefore : Row → Type 0
    EndsBefore row = (n : ℕ) → length nodes ≤ n → row.coefficient n ≡ pos 0

    same_expanded : (row : Row) → EndsBefore row → expanded_below more (length more) row ≡ expanded_below nodes (length nodes) row
    same_expanded row ends = skip more row (length nodes) (length more) (grown_length nodes more g) (λ n low high. ends n low) ∙ same_below (length nodes) (omega arith) row

    same_narrow : (row : Row) → EndsBefore row → narrow_row (length more) row ≡ narrow_row (length nodes) row
    same_narrow row ends =
        ap (λ b. cond (b && fits row.constant) (Some row) None) (passes_later (λ n. fits (row.coefficient n)) (length nodes) (length more) (grown_length nodes more g) (λ n le. ap fits (ends n le)))

    same_row : (row : Row) → EndsBefore row → narrow_row (length more) (expanded_below more (length more) row) ≡ narrow_row (length nodes) (expanded_below nodes (length nodes) row)
    same_row row ends =
        ap (narrow_row (length more)) (same_expanded row ends)
        ∙ same_narrow (expanded_below nodes (length nodes) row) (λ n le. below_elsewhere nodes sorted (length nodes) row n le ∙ ends n le)

    same_difference : (a b : ℕ) (k : ℤ) → a < length nodes → b < length nodes → difference more (length more) a b k ≡ difference nodes (length nodes) a b k
    same_difference a b k less_a less_b =
        same_row (with_more a (negsuc 0) (with_more b (pos 1) (constant_row k)))
        (λ n le. more_elsewhere n a (negsuc 0) (with_more b (pos 1) (constant_row k)) (omega (arith, le, less_a)) ∙ more_elsewhere n b (pos 1) (constant_row k) (omega (arith, le, less_b)))

    same_comparison : (positive : Bool) (op : Op) (a b : ℕ) → a < length nodes → b < length nodes → comparison_rows more positive op a b ≡ comparison_rows nodes positive op a b
    same_comparison true ops.AtMost a b less_a less_b = ap one_row (same_difference a b (pos 0) less_a less_b)
    same_comparison false ops.AtMost a b less_a less_b = ap one_row (same_difference b a (negsuc 0) less_b less_a)
    same_comparison true ops.Equal a b less_a less_b = (λ i. two_rows (same_difference a b (pos 0) less_a less_b i) (same_difference b a (pos 0) less_b less_a i))
    same_comparison positive op a b less_a less_b = refl

    same_by_sort : (sort : Sort) (positive : Bool) (op : Op) (a b : ℕ) → a < length nodes → b < length nodes → rows_by_sort sort more positive op a b ≡ rows_by_sort sort nodes positive op a b
    same_by_sort sorts.Number positive op a b less_a less_b = same_comparison positive op a b less_a less_b
    same_by_sort sorts.Truth positive op a b less_a less_b = refl
    same_by_sort sorts.Character positive op a b less_a less_b = refl

    same_of_parts : (m : ℕ) (positive : Bool) (op : Op) (parts : List ℕ) → m ≤ length nodes → list_all (λ part. nat_lt part m) parts ≡ true → rows_of_parts more positive op parts ≡ rows_of_parts nodes positive op parts
    same_of_parts m positive op [] le below = refl
    same_of_parts m positive op (a ∷ []) le below = refl
    same_of_parts m positive op (a ∷ b ∷ []) le below =
        let less = two_below m a b below in
        let less_a : a < length nodes = omega (arith, less.0) in
        ap (λ (sort : Sort). rows_by_sort sort more positive op a b) (grown_sort nodes more g a less_a) ∙ same_by_sort (sort_at nodes a) positive op a b less_a (omega (arith, less.1))
    same_of_parts m positive op (a ∷ b ∷ c ∷ others) le below = refl

    same_of_node : (positive : Bool) (n : ℕ) → n < length nodes → rows_of_node more positive (slice_get more n) ≡ rows_of_node nodes positive (slice_get nodes n)
    same_of_node positive n less =
        let at = get_below nodes n less in
        ap (rows_of_node more positive) (grown_get nodes more g n at.0 at.1)
        ∙ same_of_parts n positive at.0.op at.0.parts (omega (arith, less)) (parts_below nodes n at.0 sorted at.1)
        ∙ ap (rows_of_node nodes positive) (sym at.1)

    pub rows_same : (literals : List Lit) → are_literals nodes literals ≡ true → rows_of more literals ≡ rows_of nodes literals
    rows_same [] all = refl
    rows_same (l ∷ others) all =
        let parts = and_parts (is_formula nodes l.node) (are_literals nodes others) all in
        let formula = and_parts (nat_lt l.node (length nodes)) (same_sort (sort_at nodes l.node) sorts.Truth) parts.0 in
        let here = same_of_node l.positive l.node (ltb-true l.node (length nodes) formula.0) in
        let rest = rows_same others parts.1 in
        (λ i. option_and_then (λ rows. option_map (λ more. rows ++ more) (rest i)) (here i))

pub rows_later : (nodes more : List Node) → IsTable more → take (length nodes) more ≡ nodes → (literals : List Lit) → are_literals nodes literals ≡ true → rows_of more literals ≡ rows_of nodes literals
rows_later nodes more table first literals all =
    let g = grown_from nodes more first in
    rows_same nodes more g (sorted_first nodes more g (record { sorted = table.sorted })) literals all
