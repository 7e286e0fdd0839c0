-- A decision at a bound.
use Rattle.std.proofs.Common.{◌≡◌, inl, inr, ⊎_elim, Bool, ℕ, ◌<◌, ℤ, true, false, List, [], ◌∷◌, ◌++◌, length, Some, slice_get, nat_lt, refl, sym, ap, ◌∙◌, subst, arith, ltb-true, lt-ltb, Option}
use Rattle.std.specs.Option.{option_map_or}
use Rattle.std.proofs.lemmas.Bool.{and_from, cases_Bool, and_parts}
use Rattle.std.proofs.lemmas.Option.{slice_get_within}
use Rattle.df_closure.proofs.Atoms.{two_below}
use Rattle.df_form.specs.declared.log.Lit.{Lit}
use Rattle.df_form.specs.declared.node.Sort.{Sort}
use Rattle.df_form.specs.declared.node.Sort.TheVariants as sorts
use Rattle.df_form.specs.Node.{Node, same_sort}
use Rattle.df_form.specs.Made.{made}
use Rattle.df_form.specs.Sorting.{IsTable, is_formula, is_well_sorted, sort_at, sort_of}
use Rattle.df_form.specs.Clause.{Clause, yes, no, is_among, are_literals}
use Rattle.df_form.specs.Sequent.{Sequent}
use Rattle.df_rules.specs.Bound.{number, at_most}
use Rattle.df_rules.specs.Derivation.{is_number}
use Rattle.df_rules.specs.Growth.{Grows, IsNumber}
use Rattle.df_closure.specs.Closure.{GroundClause, after}
use Rattle.df_logbuild.specs.declared.derivation.Derivation.{Derivation}
use Rattle.df_logbuild.specs.Runs.{Runs}
use Rattle.df_trail.specs.declared.trail.Trail.{Trail}
use Rattle.df_trail.specs.Trail.{branch_of, decided}
use Rattle.df_branch.specs.Evidence.{IsDecision, of_split}
use Rattle.df_branch.specs.Next.{IsQuiet, ComesNext}
use Rattle.df_branch.specs.Leaf.{IsBetweenLeaf}
use Rattle.df_search.specs.declared.searching.State.{State}
use Rattle.df_search.specs.Searching.{clauses_of, Searches}
use Rattle.df_form.proofs.Same.{same_sort_equal}
use Rattle.df_form.proofs.Values.{parts_below}
use Rattle.df_rules.proofs.Growth.{get-grows, number-grows, made-grows, made-at, number-made, sorted-comparison, grows-trans}
use Rattle.df_closure.proofs.LaterRows.{rows_later}
use Rattle.df_search.proofs.Coming.{decides, literal_formula}
use Rattle.df_branch.proofs.LaterNodes.{quiet_list_later}
use Rattle.df_search.proofs.Covering.{quiet_of}
use Rattle.df_search.proofs.Growing.{makes, makes_node}

pub is_of_number : (nodes : List Node) (n : ℕ) → is_number nodes n ≡ true → IsNumber nodes n
is_of_number nodes n e =
    let parts = and_parts (nat_lt n (length nodes)) (same_sort (sort_at nodes n) sorts.Number) e in
    (ltb-true n (length nodes) parts.0, same_sort_equal (sort_at nodes n) sorts.Number parts.1)

-- the comparison may stand after the number
pub comparison_sorted : (nodes more : List Node) (term place : ℕ) (bound : ℤ) → is_number nodes term ≡ true → made nodes (number bound) ≡ record { nodes = more; number = place } → is_well_sorted more (at_most term place) ≡ true
comparison_sorted nodes more term place bound is e =
    sorted-comparison more term place (number-grows nodes more term (made-grows nodes (number bound) (record { nodes = more; number = place }) e) (is_of_number nodes term is)) (number-made nodes bound (record { nodes = more; number = place }) e)

-- a comparison that no known literal is of, where it stands, is known nowhere
module _ (nodes more : List Node) (table : IsTable nodes) (grows : Grows nodes more) (facts : List Lit) (formulas : are_literals nodes facts ≡ true) (term place m : ℕ) (bound : ℤ)
    (place_is : slice_get more place ≡ Some (number bound)) (m_is : slice_get more m ≡ Some (at_most term place)) where
  unknown : (l : Lit) → l.node ≡ m → (slice_get nodes place ≡ Some (number bound) → slice_get nodes m ≡ Some (at_most term place) → is_among facts l ≡ false) → is_among facts l ≡ false
  unknown l node_is none = ⊎_elim (λ there. here there) (λ e. e) (cases_Bool (is_among facts l))
    where
      here : is_among facts l ≡ true → is_among facts l ≡ false
      here there =
          let formula : is_formula nodes m ≡ true = subst (λ (n : ℕ). is_formula nodes n ≡ true) node_is (literal_formula nodes facts l formulas there) in
          let low : m < length nodes = ltb-true m (length nodes) (and_parts (nat_lt m (length nodes)) (same_sort (sort_at nodes m) sorts.Truth) formula).0 in
          let old_m = sym (get-grows nodes more m grows low) ∙ m_is in
          let parts = two_below m term place (parts_below nodes m (at_most term place) (record { sorted = table.sorted }) old_m) in
          let lower : place < length nodes = omega (arith, low, parts.1) in
          none (sym (get-grows nodes more place grows lower) ∙ place_is) old_m

-- the decision at the bound
module _ (set : List Node) (clauses : List GroundClause) (nodes middle more : List Node) (branch : List Lit) (term place m : ℕ) (bound : ℤ) (leaf : IsBetweenLeaf clauses nodes branch term bound) (table : IsTable nodes) (more_table : IsTable more)
    (grows : Grows nodes more) (place_is : slice_get more place ≡ Some (number bound)) (m_is : slice_get more m ≡ Some (at_most term place)) where
  facts : List Lit
  facts = after branch leaf.learned

  stays_quiet : IsQuiet more clauses branch leaf.learned
  stays_quiet = quiet_list_later nodes more more_table grows clauses branch leaf.learned (quiet_of leaf.unshut)

  not_above : is_among facts (yes m) ≡ false
  unfolding facts
  not_above = unknown nodes more table grows facts leaf.unshut.formulas term place m bound place_is m_is (yes m) refl (λ p q. leaf.not_true place m p q)

  not_below : is_among facts (no m) ≡ false
  unfolding facts
  not_below = unknown nodes more table grows facts leaf.unshut.formulas term place m bound place_is m_is (no m) refl (λ p q. leaf.not_false place m p q)

  is_decision : IsDecision set more clauses branch leaf.learned (yes m)
  unfolding facts
  is_decision = of_split leaf.filled (record {
    rows = leaf.unshut.rows;
    rows_are = rows_later nodes more more_table grows facts leaf.unshut.formulas ∙ leaf.unshut.rows_are;
    first = leaf.first;
    variables = leaf.variables;
    levels = leaf.levels;
    elimination = leaf.elimination;
    count = leaf.count;
    within = leaf.within;
    term = term;
    bound = bound;
    between = leaf.between;
    place = place;
    is_bound = place_is;
    is_comparison = m_is;
  })

  -- either side
  pub bound_follows : (positive : Bool) → ComesNext set more clauses branch (record { positive = positive; node = m })
  unfolding facts
  bound_follows true = record { learned = leaf.learned; quiet = stays_quiet; not_true = not_above; not_false = not_below; decision = inl is_decision }
  bound_follows false = record { learned = leaf.learned; quiet = stays_quiet; not_true = not_below; not_false = not_above; decision = inr is_decision }

-- a node whose value is a truth
pub truth_formula : (nodes : List Node) (m : ℕ) (node : Node) → slice_get nodes m ≡ Some node → sort_of node.op ≡ sorts.Truth → is_formula nodes m ≡ true
truth_formula nodes m node e is =
    and_from (nat_lt m (length nodes)) (same_sort (sort_at nodes m) sorts.Truth) (lt-ltb m (length nodes) (slice_get_within nodes m node e))
    (ap (λ (o : Option Node). same_sort (option_map_or (λ (node : Node). sort_of node.op) o sorts.Number) sorts.Truth) e ∙ ap (λ (sort : Sort). same_sort sort sorts.Truth) is)

pub splits : (s : Sequent) (rounds : ℕ) (old : State) → Searches s rounds old → (term place m : ℕ) (bound : ℤ) (positive : Bool) (first second : Derivation) (trail : Trail) → IsBetweenLeaf (clauses_of old) old.derivation.nodes (branch_of old.trail) term bound
    → made old.derivation.nodes (number bound) ≡ record { nodes = first.nodes; number = place } → ((s : Sequent) (all : List Clause) → Runs s old.derivation all → Runs s first all)
    → made first.nodes (at_most term place) ≡ record { nodes = second.nodes; number = m } → ((s : Sequent) (all : List Clause) → Runs s first all → Runs s second all)
    → trail.decisions.items ≡ old.trail.decisions.items ++ decided (record { positive = positive; node = m }) ∷ [] → Searches s rounds (record old { derivation = second; trail = trail })
splits s rounds old searches term place m bound positive first second trail leaf made_first runs_first made_second runs_second trail_is =
    let all = searches.all in
    let nodes = old.derivation.nodes in
    let one = makes_node s rounds all old searches.is (number bound) refl refl refl first (makes nodes (number bound) first.nodes place made_first) (runs_first s all searches.is.runs) in
    let sorted = comparison_sorted nodes first.nodes term place bound leaf.of_number made_first in
    let two = makes_node s rounds all (record old { derivation = first }) one (at_most term place) sorted refl refl second (makes first.nodes (at_most term place) second.nodes m made_second) (runs_second s all one.runs) in
    let grows_one = made-grows nodes (number bound) (record { nodes = first.nodes; number = place }) made_first in
    let grows_two = made-grows first.nodes (at_most term place) (record { nodes = second.nodes; number = m }) made_second in
    let at_place = made-at nodes (number bound) (record { nodes = first.nodes; number = place }) made_first in
    let at_m = made-at first.nodes (at_most term place) (record { nodes = second.nodes; number = m }) made_second in
    let is_number_there = number-made nodes bound (record { nodes = first.nodes; number = place }) made_first in
    let follows = bound_follows old.set (clauses_of old) nodes first.nodes second.nodes (branch_of old.trail) term place m bound leaf searches.is.standing.place.table two.standing.place.table (grows-trans nodes first.nodes second.nodes grows_one grows_two)
    (get-grows first.nodes second.nodes place grows_two is_number_there.0 ∙ at_place) at_m positive in
    record { all = all; is = decides s rounds all (record old { derivation = second }) two (record { positive = positive; node = m }) follows (truth_formula second.nodes m (at_most term place) at_m refl) trail trail_is }
