-- Known literals are true in the table of a solution.
use Rattle.std.proofs.Common.{◌≡◌, ℕ, ◌-◌, ◌<◌, ◌⊎◌, inl, inr, ℤ, pos, Bool, true, false, not, List, [], ◌∷◌, take, length, Some, slice_get, nat_lt, refl, sym, ap, ◌∙◌, arith, subst, true≢false}
use Rattle.std.specs.Option.{option_and_then}
use Rattle.std.specs.Ordering.{int_eq}
use Rattle.std.proofs.lemmas.Int.{ints}
use Rattle.std.proofs.lemmas.Bool.Decides.{Decides-int_eq}
use Rattle.std.proofs.lemmas.Bool.{cases_Bool, and_parts}
use Rattle.std.proofs.lemmas.Option.{slice_get_within}
use Rattle.df_lemmas.proofs.Lists.{get_below}
use Rattle.df_form.specs.declared.log.Lit.{Lit}
use Rattle.df_form.specs.declared.node.Sort.{Sort}
use Rattle.df_form.specs.declared.node.Sort.TheVariants as sorts
use Rattle.df_form.specs.declared.node.Op.{Op}
use Rattle.df_form.specs.declared.node.Op.TheVariants as ops
use Rattle.df_form.specs.Node.{Node, same_sort}
use Rattle.df_form.specs.Sorting.{IsTable, sort_at, is_formula}
use Rattle.df_form.specs.Clause.{yes, no, is_among, literal_truth}
use Rattle.df_form.proofs.Drafts.{sort_here}
use Rattle.df_form.proofs.Same.{same_sort_equal, values_alike, no_truths}
use Rattle.df_form.proofs.Tables.{table-take}
use Rattle.df_form.proofs.Values.{Grows, grown_length, AreSorted, parts_below, parts_taken}
use Rattle.df_meaning.specs.Value.{same_truth}
use Rattle.df_row.specs.Value.{rows_hold}
use Rattle.df_rules.specs.Congruence.{equality, sides_of}
use Rattle.df_cong.specs.Congruence.{label_at}
use Rattle.df_classes.specs.Equal.{opposites, equals}
use Rattle.df_closure.specs.Full.{is_primitive, ArePrimitivesTrue}
use Rattle.df_closure.specs.Comparisons.{AreComparisonsTrue}
use Rattle.df_closure.proofs.Atoms.{two_below}
use Rattle.df_closure.proofs.NumberAtoms.{rows_agree}
use Rattle.df_closure.proofs.Comparisons.{comparisons_follow, two_parts}
use Rattle.df_closure.proofs.FullConnectives.{IsReadList}
use Rattle.df_closure.proofs.FullLists.{passes_among, known_hold}
use Rattle.df_table.specs.TableModel.{number_at, is_true}
use Rattle.df_model.specs.TableNumbers.{counts_as_true, basis_of, has_true, free_number}
use Rattle.df_model.specs.Tabulation.{IsWholeTable}
use Rattle.df_model.specs.Solution.{IsSolution}
use Rattle.df_model.proofs.KnownLabels.{denied_there, held_there, true_held, held_true}
use Rattle.df_model.proofs.FrontTables.{GoesOn, goes_on, tabulated_among}
use Rattle.df_model.proofs.TableReadings.{number_is, read, equality_read, table_reads, character_is, atoms_alike}

pub same_codes : (a b : ℕ) → pos a ≡ pos b → a ≡ b
same_codes a b e = grind (arith, ints)

neither : (sort : Sort) → (sort ≡ sorts.Truth → ⊥) → same_sort sort sorts.Number ≡ false → sort ≡ sorts.Character
neither sorts.Number truth other = absurd (true≢false other)
neither sorts.Truth truth other = absurd (truth refl)
neither sorts.Character truth other = refl

not_same : (b : Bool) → not b ≡ true → b ≡ false
not_same true e = absurd (true≢false (sym e))
not_same false e = refl

module _ (nodes : List Node) (known : List Lit) (numbers : List ℤ) (labels : List ℕ) (s : IsSolution nodes known numbers labels) where
  pub sorted : AreSorted nodes
  sorted = record { sorted = s.table.sorted }

  -- the first nodes are sorted too
  pub front_sorted : (set : List Node) → take (length set) nodes ≡ set → AreSorted set
  front_sorted set begins = record { sorted = (subst IsTable begins (table-take nodes (length set) s.table)).sorted }

  abbrev label : ℕ → ℕ
  label n = label_at labels n

  -- equal labels contradict nothing that is known
  pub not_opposite : (m n : ℕ) → is_among known (yes m) ≡ true → is_among known (no n) ≡ true → label m ≡ label n → ⊥
  not_opposite m n a b e = s.labels_are.quiet (opposites (denied_there known (yes m) a) (denied_there known (no n) b) (s.labels_are.labels_are.equal m n e))

  equality_at : (n a b : ℕ) → slice_get nodes n ≡ Some (record { op = ops.Equal; parts = a ∷ b ∷ [] }) → equality nodes n ≡ Some (record { left = a; right = b })
  equality_at n a b at = ap (option_and_then (λ (node : Node). sides_of node.op node.parts)) at

  pub known_equal : (n a b : ℕ) → slice_get nodes n ≡ Some (record { op = ops.Equal; parts = a ∷ b ∷ [] }) → is_among known (yes n) ≡ true → label a ≡ label b
  known_equal n a b at e = s.labels_are.labels_are.sides (record { left = a; right = b }) (held_there nodes known n (record { left = a; right = b }) e (equality_at n a b at))

  pub known_unequal : (n a b : ℕ) → slice_get nodes n ≡ Some (record { op = ops.Equal; parts = a ∷ b ∷ [] }) → is_among known (no n) ≡ true → label a ≡ label b → ⊥
  known_unequal n a b at e same = s.labels_are.quiet (equals (denied_there known (no n) e) (equality_at n a b at) (s.labels_are.labels_are.equal a b same))

  -- a formula that is true by its label
  by_label : (b : Bool) (n : ℕ) → is_among known (record { positive = b; node = n }) ≡ true → same_truth b (has_true (λ m. label m) known n) ≡ true
  by_label true n e = true_held (λ m. label m) known n e
  by_label false n e = by (cases_Bool (has_true (λ m. label m) known n))
    where
      by : (has_true (λ m. label m) known n ≡ true) ⊎ (has_true (λ m. label m) known n ≡ false) → not (has_true (λ m. label m) known n) ≡ true
      by (inl held) = let found = held_true (λ m. label m) known n held in absurd (not_opposite found.0 n found.1 e found.2)
      by (inr none) = ap not none

  module _ (table : List ℤ) (whole : IsWholeTable (basis_of numbers labels known) nodes table) where
    abbrev v : ℕ → ℤ
    v n = number_at table n

    abbrev t : ℕ → Bool
    t n = is_true table n

    rows_met : rows_hold (length nodes) v s.rows ≡ true
    rows_met = sym (rows_agree nodes sorted (number_at numbers) v (atoms_alike (basis_of numbers labels known) nodes sorted table whole) known s.rows s.rows_are) ∙ s.met

    pub compared : AreComparisonsTrue nodes t known
    compared = comparisons_follow nodes sorted v t (table_reads (basis_of numbers labels known) nodes sorted table whole) known s.rows s.rows_are rows_met

    character_at : (a : ℕ) → a < length nodes → sort_at nodes a ≡ sorts.Character → v a ≡ pos (label a)
    character_at a less sort = let at = get_below nodes a less in character_is (basis_of numbers labels known) nodes sorted table whole a at.0 at.1 sort

    same_label : (a b : ℕ) → v a ≡ pos (label a) → v b ≡ pos (label b) → v a ≡ v b → label a ≡ label b
    same_label a b x y e = same_codes (label a) (label b) (sym x ∙ e ∙ y)

    -- an equality of characters
    characters_true : (b : Bool) (n x y : ℕ) → slice_get nodes n ≡ Some (record { op = ops.Equal; parts = x ∷ y ∷ [] }) → v x ≡ pos (label x) → v y ≡ pos (label y) → is_among known (record { positive = b; node = n }) ≡ true → same_truth b (t n) ≡ true
    characters_true true n x y at is_x is_y e =
        equality_read (basis_of numbers labels known) nodes sorted table whole n x y at
        ∙ (Decides-int_eq (v x) (v y)).1 (is_x ∙ ap (λ (m : ℕ). pos m) (known_equal n x y at e) ∙ sym is_y)
    characters_true false n x y at is_x is_y e = ap not (equality_read (basis_of numbers labels known) nodes sorted table whole n x y at) ∙ by (cases_Bool (int_eq (v x) (v y)))
      where
        by : (int_eq (v x) (v y) ≡ true) ⊎ (int_eq (v x) (v y) ≡ false) → not (int_eq (v x) (v y)) ≡ true
        by (inl same) = absurd (known_unequal n x y at e (same_label x y is_x is_y ((Decides-int_eq (v x) (v y)).0 same)))
        by (inr other) = ap not other

    equality_true : (b : Bool) (n x y : ℕ) → slice_get nodes n ≡ Some (record { op = ops.Equal; parts = x ∷ y ∷ [] }) → same_sort (sort_at nodes x) sorts.Number ≡ false → is_among known (record { positive = b; node = n }) ≡ true → same_truth b (t n) ≡ true
    equality_true b n x y at other e =
        let node : Node = record { op = ops.Equal; parts = x ∷ y ∷ [] } in
        let below = two_below n x y (parts_below nodes n node sorted at) in
        let within = slice_get_within nodes n node at in
        let sort = neither (sort_at nodes x) (no_truths (sort_at nodes x) (sort_at nodes y) (parts_taken nodes n node sorted at)) other in
        let alike = values_alike (sort_at nodes x) (sort_at nodes y) (parts_taken nodes n node sorted at) in
        characters_true b n x y at (character_at x (omega (arith, below.0, within)) sort) (character_at y (omega (arith, below.1, within)) (sym alike ∙ sort)) e

    formula_sort : (l : Lit) (node : Node) → is_among known l ≡ true → slice_get nodes l.node ≡ Some node → sort_at nodes l.node ≡ sorts.Truth
    formula_sort l node e at =
        let formula = passes_among (λ (k : Lit). is_formula nodes k.node) known l s.formulas e in
        same_sort_equal (sort_at nodes l.node) sorts.Truth (and_parts (nat_lt l.node (length nodes)) (same_sort (sort_at nodes l.node) sorts.Truth) formula).1

    primitives : ArePrimitivesTrue nodes t known
    primitives l node e at primitive = by node.op node.parts at primitive
      where
        held : t l.node ≡ has_true (λ m. label m) known l.node → same_truth l.positive (t l.node) ≡ true
        held is = ap (same_truth l.positive) is ∙ by_label l.positive l.node e

        by : (op : Op) (parts : List ℕ) → slice_get nodes l.node ≡ Some (record { op = op; parts = parts }) → is_primitive nodes op parts ≡ true → same_truth l.positive (t l.node) ≡ true
        by (ops.Free free) parts at primitive =
            let here : Node = record { op = ops.Free free; parts = parts } in
            let sort = sym (sort_here nodes l.node here at) ∙ formula_sort l here e at in
            held (read (basis_of numbers labels known) nodes sorted table whole l.node (has_true (λ m. label m) known l.node) (number_is (basis_of numbers labels known) nodes sorted table whole l.node here at ∙ ap (free_number (basis_of numbers labels known) l.node) sort))
        by (ops.Of symbol payload) parts at primitive =
            let here : Node = record { op = ops.Of symbol payload; parts = parts } in
            let sort = sym (sort_here nodes l.node here at) ∙ formula_sort l here e at in
            held (read (basis_of numbers labels known) nodes sorted table whole l.node (has_true (λ m. label m) known l.node) (number_is (basis_of numbers labels known) nodes sorted table whole l.node here at ∙ ap (free_number (basis_of numbers labels known) l.node) sort))
        by ops.AtMost parts at primitive = compared l e (two_parts nodes sorted l parts at)
        by ops.Equal (x ∷ y ∷ []) at primitive = equality_true l.positive l.node x y at (not_same (same_sort (sort_at nodes x) sorts.Number) primitive) e
        by ops.Equal [] at primitive = absurd (true≢false (sym primitive))
        by ops.Equal (x ∷ []) at primitive = absurd (true≢false (sym (parts_taken nodes l.node (record { op = ops.Equal; parts = x ∷ [] }) sorted at)))
        by ops.Equal (x ∷ y ∷ z ∷ others) at primitive = absurd (true≢false (sym (parts_taken nodes l.node (record { op = ops.Equal; parts = x ∷ y ∷ z ∷ others }) sorted at)))
        by op parts at primitive = absurd (true≢false (sym primitive))

    read_list : IsReadList nodes known v t
    read_list = record { sorted = sorted; reading = table_reads (basis_of numbers labels known) nodes sorted table whole; connectives = s.connectives; consistent = s.consistent }

    pub solved : (l : Lit) → is_among known l ≡ true → literal_truth t l ≡ true
    solved l e = known_hold nodes known v t read_list primitives s.formulas l e

  module _ (set : List Node) (grows : Grows set nodes) (set_sorted : AreSorted set) (table : List ℤ) (whole : IsWholeTable (basis_of numbers labels known) set table) where
    -- the table goes on to one of all nodes
    pub all : GoesOn (basis_of numbers labels known) nodes sorted table
    all =
        let longer = grown_length set nodes grows in
        let covers = whole.covers in
        goes_on (basis_of numbers labels known) nodes sorted (length nodes - length table) table (tabulated_among (basis_of numbers labels known) set nodes set_sorted grows table longer whole.tabulated) (omega (arith, longer, covers))

    pub same_number : (n : ℕ) → n < length set → number_at all.0 n ≡ number_at table n
    same_number n less = let covers = whole.covers in all.2 n (omega (arith, less, covers))

    pub solved_first : (l : Lit) → is_among known l ≡ true → l.node < length set → literal_truth (is_true table) l ≡ true
    solved_first l e less = ap (λ z. same_truth l.positive (counts_as_true z)) (sym (same_number l.node less)) ∙ solved all.0 all.1 l e
