-- A log that derives a sequent makes it valid.
use Rattle.std.proofs.Common.{◌≡◌, ℕ, zero, suc, ◌⊎◌, inl, inr, Bool, true, false, not, ◌&&◌, ◌||◌, List, [], ◌∷◌, ◌++◌, length, Option, Some, slice_get, nat_lt, refl, subst}
use Rattle.std.specs.Option.{option_map}
use Rattle.std.specs.List.{list_all, AllByRecursion}
use Rattle.std.proofs.lemmas.Option.{same_Some}
use Rattle.std.proofs.lemmas.Bool.{or_cases, or_left, or_right, cases_Bool, and_parts}
use Rattle.df_lemmas.proofs.Alls.{all_joined}
use Rattle.df_lemmas.proofs.Lists.{all_parts}
use Rattle.df_lemmas.proofs.Options.{then_some, map_some, test_some}
use Rattle.df_form.specs.Log.{Step, Hypothesis, Goal, Connective, Schema, Propagation, Congruence, Linear, Split, Make}
use Rattle.df_form.specs.declared.node.Sort.TheVariants as sorts
use Rattle.df_form.specs.Node.{Node, number_of, same_sort}
use Rattle.df_form.specs.Sorting.{IsTable, is_formula, is_well_sorted, sort_at}
use Rattle.df_form.specs.Truth.{Assignment, truth}
use Rattle.df_form.specs.Sequent.{Sequent, IsSequent, IsValid}
use Rattle.df_form.specs.Clause.{Clause, yes, no, literal_truth, clause_truth}
use Rattle.df_rules.specs.Connective.{Added, connective_line}
use Rattle.df_axiom.specs.Line.{instance_line}
use Rattle.df_rules.specs.Truth.{IsTrue}
use Rattle.df_form.specs.World.{World}
use Rattle.df_rules.specs.Propagation.{propagation_line}
use Rattle.df_row.specs.Linear.{linear_line}
use Rattle.df_rules.specs.Derivation.{State, begin, only_clause, split_line, is_foreign, is_new, made_line, with_clause, adds, after, after_all, ends_empty, Derives}
use Rattle.df_form.proofs.Values.{Grows, grows_not, grows_by, grows_twice, AreSorted, one_more_sorted}
use Rattle.df_rules.proofs.SoundClauses.{Holds, holds_grown, propagation_holds, IsLine}
use Rattle.df_rules.proofs.SoundConnectives.{connective_is_line}
use Rattle.df_rules.proofs.SoundBounds.{schema_is_line, split_is_line}
use Rattle.df_rules.specs.CongruenceLine.{congruence_line}
use Rattle.df_rules.proofs.SoundCongruence.{congruence_holds}
use Rattle.df_rules.proofs.SoundLinear.{linear_holds}

-- each formula of a list stands among the nodes
listed_below : (nodes : List Node) (hypotheses : List ℕ) (i h : ℕ) → list_all (is_formula nodes) hypotheses ≡ true → slice_get hypotheses i ≡ Some h → nat_lt h (length nodes) ≡ true
listed_below nodes [] i h all e = absurd cc
listed_below nodes (first ∷ others) zero h all e =
    let parts = and_parts (is_formula nodes first) (list_all (is_formula nodes) others) all in
    let formula = and_parts (nat_lt first (length nodes)) (same_sort (sort_at nodes first) sorts.Truth) parts.0 in
    subst (λ (n : ℕ). nat_lt n (length nodes) ≡ true) (same_Some first h e) formula.0
listed_below nodes (first ∷ others) (suc i) h all e = listed_below nodes others i h (and_parts (is_formula nodes first) (list_all (is_formula nodes) others) all).1 e

true_at : (is : ℕ → Bool) (hypotheses : List ℕ) (i h : ℕ) → AllByRecursion (λ n. is n ≡ true) hypotheses → slice_get hypotheses i ≡ Some h → is h ≡ true
true_at is [] i h all e = absurd cc
true_at is (first ∷ others) zero h all e = subst (λ (n : ℕ). is n ≡ true) (same_Some first h e) all.0
true_at is (first ∷ others) (suc i) h all e = true_at is others i h all.1 e

yes_test : (b t : Bool) → b ≡ true → t ≡ true → ((b && t) || false) ≡ true
yes_test b t e f = rw (e, f) refl

no_test : (b t : Bool) → b ≡ true → t ≡ false → ((b && not t) || false) ≡ true
no_test b t e f = rw (e, f) refl

-- Where the hypotheses are true and the goal is false, each clause of a derivation holds.
module _ (depth : ℕ) (assignment : Assignment) (s : Sequent) (is : IsSequent s)
    (true_all : AllByRecursion (λ h. truth depth s.world assignment s.nodes h ≡ true) s.hypotheses) (goal_false : truth depth s.world assignment s.nodes s.goal ≡ false) where
  pub record Keeps (state : State) : Type 0 where
    pub grows : Grows s.nodes state.nodes
    pub sorted : AreSorted state.nodes
    pub hold : AllByRecursion (Holds depth s.world assignment state.nodes) state.clauses

  hold_grown : (before now : List Node) (clauses : List Clause) → Grows before now → AllByRecursion (Holds depth s.world assignment before) clauses → AllByRecursion (Holds depth s.world assignment now) clauses
  hold_grown before now [] g all = tt
  hold_grown before now (clause ∷ others) g all = (holds_grown depth s.world assignment before now g clause all.0, hold_grown before now others g all.1)

  begin_keeps : Keeps (begin s)
  begin_keeps = record { grows = grows_not s.nodes; sorted = record { sorted = is.table.sorted }; hold = tt }

  line_keeps : (state next : State) (o : Option Added) → Keeps state → ((added : Added) → o ≡ Some added → IsLine depth s.world assignment state.nodes added) → adds state o ≡ Some next → Keeps next
  line_keeps state next o keeps line e =
      let found = map_some (with_clause state) o next e in
      let one = line found.0 found.1 in
      let now = found.0.nodes in
      subst Keeps found.2 (record {
        grows = grows_twice s.nodes state.nodes now keeps.grows one.grows;
        sorted = one.sorted;
        hold = all_joined (Holds depth s.world assignment now) state.clauses (found.0.clause ∷ []) (hold_grown state.nodes now state.clauses one.grows keeps.hold) (one.holds, tt);
      })

  clause_line : (nodes : List Node) (o : Option Clause) (added : Added) → AreSorted nodes → ((clause : Clause) → o ≡ Some clause → Holds depth s.world assignment nodes clause) → only_clause nodes o ≡ Some added
      → IsLine depth s.world assignment nodes added
  clause_line nodes o added sorted holds e =
      let found = map_some (λ (c : Clause). record { nodes = nodes; clause = c }) o added e in
      subst (IsLine depth s.world assignment nodes) found.2 (record { grows = grows_not nodes; sorted = sorted; holds = holds found.0 found.1 })

  hypothesis_holds : (nodes : List Node) (i : ℕ) (clause : Clause) → Grows s.nodes nodes → option_map (λ h. yes h ∷ []) (slice_get s.hypotheses i) ≡ Some clause → Holds depth s.world assignment nodes clause
  hypothesis_holds nodes i clause grows e =
      let found = map_some (λ (h : ℕ). yes h ∷ []) (slice_get s.hypotheses i) clause e in
      let formulas = all_parts (is_formula s.nodes) s.hypotheses (s.goal ∷ []) is.formulas in
      let below = listed_below s.nodes s.hypotheses i found.0 formulas.0 found.1 in
      let holds : Holds depth s.world assignment s.nodes (yes found.0 ∷ []) = yes_test _ _ below (true_at (truth depth s.world assignment s.nodes) s.hypotheses i found.0 true_all found.1) in
      subst (Holds depth s.world assignment nodes) found.2 (holds_grown depth s.world assignment s.nodes nodes grows (yes found.0 ∷ []) holds)

  goal_holds : (nodes : List Node) (clause : Clause) → Grows s.nodes nodes → Some (no s.goal ∷ []) ≡ Some clause → Holds depth s.world assignment nodes clause
  goal_holds nodes clause grows e =
      let formulas = all_parts (is_formula s.nodes) s.hypotheses (s.goal ∷ []) is.formulas in
      let below = listed_below s.nodes (s.goal ∷ []) zero s.goal formulas.1 refl in
      let holds : Holds depth s.world assignment s.nodes (no s.goal ∷ []) = no_test _ _ below goal_false in
      subst (Holds depth s.world assignment nodes) (same_Some (no s.goal ∷ []) clause e) (holds_grown depth s.world assignment s.nodes nodes grows (no s.goal ∷ []) holds)

  make_keeps : (state next : State) (node : Node) → Keeps state → option_map (λ nodes. record { nodes = nodes; clauses = state.clauses }) (made_line s.world state.nodes node) ≡ Some next → Keeps next
  make_keeps state next node keeps e =
      let found = map_some (λ (nodes : List Node). record { nodes = nodes; clauses = state.clauses }) (made_line s.world state.nodes node) next e in
      let tested = test_some (not (is_foreign s.world node.op) && is_well_sorted state.nodes node && is_new (number_of state.nodes node)) (Some (state.nodes ++ node ∷ [])) found.0 found.1 in
      let first = and_parts (not (is_foreign s.world node.op) && is_well_sorted state.nodes node) (is_new (number_of state.nodes node)) tested.0 in
      let second = and_parts (not (is_foreign s.world node.op)) (is_well_sorted state.nodes node) first.0 in
      let now = state.nodes ++ node ∷ [] in
      let more = grows_by state.nodes node in
      let kept : Keeps (record { nodes = now; clauses = state.clauses }) = record {
        grows = grows_twice s.nodes state.nodes now keeps.grows more;
        sorted = one_more_sorted state.nodes node keeps.sorted second.1;
        hold = hold_grown state.nodes now state.clauses more keeps.hold;
      } in
      subst Keeps found.2 (subst (λ (nodes : List Node). Keeps (record { nodes = nodes; clauses = state.clauses })) (same_Some now found.0 tested.1) kept)

  pub after_keeps : (state next : State) (step : Step) → Keeps state → after s state step ≡ Some next → Keeps next
  after_keeps state next (Hypothesis i) keeps e =
      line_keeps state next (only_clause state.nodes (option_map (λ h. yes h ∷ []) (slice_get s.hypotheses i))) keeps
      (λ added. clause_line state.nodes (option_map (λ h. yes h ∷ []) (slice_get s.hypotheses i)) added keeps.sorted (λ clause. hypothesis_holds state.nodes i clause keeps.grows)) e
  after_keeps state next Goal keeps e =
      line_keeps state next (only_clause state.nodes (Some (no s.goal ∷ []))) keeps
      (λ added. clause_line state.nodes (Some (no s.goal ∷ [])) added keeps.sorted (λ clause. goal_holds state.nodes clause keeps.grows)) e
  after_keeps state next (Connective n k) keeps e = line_keeps state next (connective_line state.nodes n k) keeps (λ added. connective_is_line depth s.world assignment state.nodes n k added keeps.sorted) e
  after_keeps state next (Schema schema k terms) keeps e =
      line_keeps state next (instance_line s.world state.nodes schema k terms) keeps (λ added. schema_is_line depth s.world assignment state.nodes schema k terms added keeps.sorted) e
  after_keeps state next (Propagation numbers conclusion) keeps e =
      line_keeps state next (only_clause state.nodes (propagation_line state.nodes state.clauses numbers conclusion)) keeps
      (λ added. clause_line state.nodes (propagation_line state.nodes state.clauses numbers conclusion) added keeps.sorted
      (λ clause. propagation_holds depth s.world assignment state.nodes state.clauses numbers conclusion clause keeps.hold)) e
  after_keeps state next (Congruence conclusion pairs) keeps e =
      line_keeps state next (only_clause state.nodes (congruence_line state.nodes conclusion pairs)) keeps
      (λ added. clause_line state.nodes (congruence_line state.nodes conclusion pairs) added keeps.sorted (λ clause. congruence_holds depth s.world assignment state.nodes keeps.sorted conclusion clause pairs)) e
  after_keeps state next (Linear conclusion combinations) keeps e =
      line_keeps state next (only_clause state.nodes (linear_line state.nodes conclusion combinations)) keeps
      (λ added. clause_line state.nodes (linear_line state.nodes conclusion combinations) added keeps.sorted (λ clause. linear_holds depth s.world assignment state.nodes keeps.sorted conclusion clause combinations)) e
  after_keeps state next (Split n k) keeps e = line_keeps state next (split_line state.nodes n k) keeps (λ added. split_is_line depth s.world assignment state.nodes n k added keeps.sorted) e
  after_keeps state next (Make node) keeps e = make_keeps state next node keeps e

  pub after_all_keeps : (state last : State) (log : List Step) → Keeps state → after_all s state log ≡ Some last → Keeps last
  after_all_keeps state last [] keeps e = subst Keeps (same_Some state last e) keeps
  after_all_keeps state last (step ∷ steps) keeps e =
      let found = then_some (λ next. after_all s next steps) (after s state step) last e in
      after_all_keeps found.0 last steps (after_keeps state found.0 step keeps found.1) found.2

  -- an empty clause does not hold
  none_empty : (nodes : List Node) (clauses : List Clause) → AllByRecursion (Holds depth s.world assignment nodes) clauses → ends_empty clauses ≡ true → ⊥
  none_empty nodes [] all e = cc
  none_empty nodes ([] ∷ []) all e = let empty = all.0 in cc
  none_empty nodes ((l ∷ ls) ∷ []) all e = cc
  none_empty nodes (clause ∷ next ∷ others) all e = none_empty nodes (next ∷ others) all.1 e

  pub not_derived : (log : List Step) → Derives s log → ⊥
  not_derived log derives =
      let keeps = after_all_keeps (begin s) derives.0 log begin_keeps derives.1 in
      none_empty derives.0.nodes derives.0.clauses keeps.hold derives.2

-- a clause of which a literal is held is true
held_is_true : (depth : ℕ) (world : World) (assignment : Assignment) (nodes : List Node) (clause : Clause) → Holds depth world assignment nodes clause → clause_truth (truth depth world assignment nodes) clause ≡ true
held_is_true depth world assignment nodes [] e = absurd cc
held_is_true depth world assignment nodes (l ∷ others) e = next (or_cases (nat_lt l.node (length nodes) && literal_truth (truth depth world assignment nodes) l) _ e) (held_is_true depth world assignment nodes others)
  where
    next : ((nat_lt l.node (length nodes) && literal_truth (truth depth world assignment nodes) l) ≡ true) ⊎ Holds depth world assignment nodes others
        → (Holds depth world assignment nodes others → clause_truth (truth depth world assignment nodes) others ≡ true)
        → (literal_truth (truth depth world assignment nodes) l || clause_truth (truth depth world assignment nodes) others) ≡ true
    next (inl here) more = or_left (literal_truth (truth depth world assignment nodes) l) _ (and_parts (nat_lt l.node (length nodes)) (literal_truth (truth depth world assignment nodes) l) here).1
    next (inr there) more = or_right (literal_truth (truth depth world assignment nodes) l) _ (more there)

pub true_schemas : (world : World) (nodes : List Node) (schema clause : ℕ) (terms : List ℕ) (added : Added) → IsTable nodes → instance_line world nodes schema clause terms ≡ Some added → IsTrue world added
true_schemas world nodes schema clause terms added table line depth assignment =
    held_is_true depth world assignment added.nodes added.clause (schema_is_line depth world assignment nodes schema clause terms added (record { sorted = table.sorted }) line).holds

pub true_connectives : (world : World) (nodes : List Node) (node clause : ℕ) (added : Added) → IsTable nodes → connective_line nodes node clause ≡ Some added → IsTrue world added
true_connectives world nodes node clause added table line depth assignment =
    held_is_true depth world assignment added.nodes added.clause (connective_is_line depth world assignment nodes node clause added (record { sorted = table.sorted }) line).holds

pub derivation_is_valid : (s : Sequent) → IsSequent s → (log : List Step) → Derives s log → IsValid s
derivation_is_valid s is log derives = λ depth assignment all. by_truth depth assignment all (cases_Bool (truth depth s.world assignment s.nodes s.goal))
  where
    by_truth : (depth : ℕ) (assignment : Assignment) → AllByRecursion (λ h. truth depth s.world assignment s.nodes h ≡ true) s.hypotheses
        → (truth depth s.world assignment s.nodes s.goal ≡ true) ⊎ (truth depth s.world assignment s.nodes s.goal ≡ false) → truth depth s.world assignment s.nodes s.goal ≡ true
    by_truth depth assignment all (inl e) = e
    by_truth depth assignment all (inr e) = absurd (not_derived depth assignment s is all e log derives)
