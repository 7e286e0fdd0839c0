-- An assignment that makes the hypotheses true and the goal false gives a table model.
use Rattle.std.proofs.Common.{◌≡◌, ℕ, suc, ◌<◌, ℤ, true, false, List, [], ◌∷◌, map, length, Some, slice_get, nat_lt, refl, sym, ap, ◌∙◌, ltb-true}
use Rattle.std.specs.List.{list_all, AllByRecursion}
use Rattle.std.proofs.lemmas.Bool.{and_parts}
use Rattle.std.proofs.lemmas.List.Folds.{list_all-map}
use Rattle.df_lemmas.proofs.Lists.{all_parts}
use Rattle.df_form.specs.declared.node.Sort.TheVariants as sorts
use Rattle.df_form.specs.Node.{Node, same_sort}
use Rattle.df_form.specs.Sorting.{is_formula, sort_at}
use Rattle.df_form.specs.Truth.{Assignment, truth}
use Rattle.df_form.specs.Clause.{are_literals}
use Rattle.df_form.specs.Log.{step_of}
use Rattle.df_form.specs.Sequent.{Sequent, IsSequent}
use Rattle.df_form.proofs.Values.{AreSorted, grows_not}
use Rattle.df_rules.specs.Derivation.{begin}
use Rattle.df_rules.proofs.SoundClauses.{Holds}
use Rattle.df_rules.proofs.Sound.{Keeps, after_all_keeps}
use Rattle.df_clause.specs.declared.ground.Ground.{Ground}
use Rattle.df_clause.specs.GroundView.{IsGround, literals_of, state_of}
use Rattle.df_table.specs.TableModel.{number_at, IsTableModel}
use Rattle.df_model.specs.Valuation.{number_of_value, numbers_of_nodes}
use Rattle.df_model.specs.Numbers.{number_by}
use Rattle.df_model.proofs.NodeNumbers.{number_in, table_number, table_length, number_is}
use Rattle.df_model.proofs.FirstNodes.{same_truth_of_first}
use Rattle.df_model.proofs.Exactness.{table_is_exact, tables_agree}
use Rattle.df_model.proofs.ClauseTruths.{clauses_hold}

formula_below : (nodes : List Node) (n : ℕ) → is_formula nodes n ≡ true → n < length nodes
formula_below nodes n e = ltb-true n (length nodes) (and_parts (nat_lt n (length nodes)) (same_sort (sort_at nodes n) sorts.Truth) e).0

module _ (s : Sequent) (g : Ground) (depth : ℕ) (assignment : Assignment) (is : IsSequent s) (has : IsGround s g) where
  abbrev table : List ℤ
  table = numbers_of_nodes depth s.world assignment g.nodes

  sorted : AreSorted g.nodes
  sorted = record { sorted = has.table.sorted }

  numbers : (n : ℕ) (node : Node) → slice_get g.nodes n ≡ Some node → number_at table n ≡ number_by s.world (λ free. number_of_value (assignment.value free)) node.op (map (number_at table) node.parts)
  numbers n node at =
      let same : number_in depth s.world assignment g.nodes ≡ number_at table = λ i m. sym (table_number depth s.world assignment g.nodes m) i in
      table_number depth s.world assignment g.nodes n ∙ number_is depth s.world assignment g.nodes n node sorted at
      ∙ ap (λ (f : ℕ → ℤ). number_by s.world (λ free. number_of_value (assignment.value free)) node.op (map f node.parts)) same

  all_true : (hypotheses : List ℕ) → list_all (is_formula s.nodes) hypotheses ≡ true → ((h i : ℕ) → slice_get hypotheses i ≡ Some h → truth depth s.world assignment g.nodes h ≡ true)
      → AllByRecursion (λ h. truth depth s.world assignment s.nodes h ≡ true) hypotheses
  all_true [] formulas each = tt
  all_true (h ∷ others) formulas each =
      let parts = and_parts (is_formula s.nodes h) (list_all (is_formula s.nodes) others) formulas in
      (sym (same_truth_of_first depth s.world assignment s.nodes g.nodes h has.grows (formula_below s.nodes h parts.0)) ∙ each h 0 refl, all_true others parts.1 (λ other i at. each other (suc i) at))

  clauses_true : ((h i : ℕ) → slice_get s.hypotheses i ≡ Some h → truth depth s.world assignment g.nodes h ≡ true) → truth depth s.world assignment g.nodes s.goal ≡ false → AllByRecursion (Holds depth s.world assignment g.nodes) (state_of g).clauses
  clauses_true each goal =
      let formulas = all_parts (is_formula s.nodes) s.hypotheses (s.goal ∷ []) is.formulas in
      let goal_formula = and_parts (is_formula s.nodes s.goal) true formulas.1 in
      let goal_false = sym (same_truth_of_first depth s.world assignment s.nodes g.nodes s.goal has.grows (formula_below s.nodes s.goal goal_formula.0)) ∙ goal in
      let true_all = all_true s.hypotheses formulas.0 each in
      let begun : Keeps depth assignment s is true_all goal_false (begin s) = record { grows = grows_not s.nodes; sorted = record { sorted = is.table.sorted }; hold = tt } in
      (after_all_keeps depth assignment s is true_all goal_false (begin s) (state_of g) (map step_of g.lines.items) begun has.run).hold

  pub valuation_is_model : ((h i : ℕ) → slice_get s.hypotheses i ≡ Some h → truth depth s.world assignment g.nodes h ≡ true) → truth depth s.world assignment g.nodes s.goal ≡ false → IsTableModel (state_of g) table
  valuation_is_model each goal = record {
    covers = table_length depth s.world assignment g.nodes;
    congruent = λ m n less other a b. tables_agree s.world (λ free. number_of_value (assignment.value free)) g.nodes table numbers m n a b;
    exact = table_is_exact s.world (λ free. number_of_value (assignment.value free)) g.nodes table numbers;
    clauses = clauses_hold depth s.world assignment g.nodes sorted (state_of g).clauses (list_all-map (are_literals g.nodes) literals_of g.clauses ∙ has.literals) (clauses_true each goal);
  }
