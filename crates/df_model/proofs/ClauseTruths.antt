-- Clauses that hold are true in the table.
use Rattle.std.proofs.Common.{◌≡◌, ℕ, ◌⊎◌, inl, inr, Bool, true, ◌||◌, List, [], ◌∷◌, length, nat_lt, refl, ap, ◌∙◌}
use Rattle.std.specs.List.{list_all, list_any, AllByRecursion}
use Rattle.std.proofs.lemmas.Bool.{and_from, or_cases, or_left, or_right, and_parts}
use Rattle.df_form.specs.World.{World}
use Rattle.df_form.specs.declared.log.Lit.{Lit}
use Rattle.df_form.specs.declared.node.Sort.TheVariants as sorts
use Rattle.df_form.specs.Node.{Node, same_sort}
use Rattle.df_form.specs.Sorting.{is_formula, sort_at}
use Rattle.df_form.specs.Truth.{Assignment, truth}
use Rattle.df_meaning.specs.Value.{same_truth}
use Rattle.df_form.specs.Clause.{Clause, are_literals, literal_truth, clause_truth}
use Rattle.df_form.proofs.Same.{same_sort_equal}
use Rattle.df_form.proofs.Values.{AreSorted}
use Rattle.df_rules.proofs.SoundClauses.{is_held, Holds}
use Rattle.df_table.specs.TableModel.{is_true}
use Rattle.df_model.specs.Valuation.{numbers_of_nodes}
use Rattle.df_model.proofs.NodeNumbers.{table_truth}

module _ (depth : ℕ) (world : World) (assignment : Assignment) (nodes : List Node) (sorted : AreSorted nodes) where
  abbrev in_table : ℕ → Bool
  in_table n = is_true (numbers_of_nodes depth world assignment nodes) n

  literal_holds : (l : Lit) → is_formula nodes l.node ≡ true → is_held depth world assignment nodes l ≡ true → literal_truth in_table l ≡ true
  literal_holds l formula held =
      let is = and_parts (nat_lt l.node (length nodes)) (same_sort (sort_at nodes l.node) sorts.Truth) formula in
      let here = and_parts (nat_lt l.node (length nodes)) (literal_truth (truth depth world assignment nodes) l) held in
      ap (same_truth l.positive) (table_truth depth world assignment nodes sorted l.node is.0 (same_sort_equal (sort_at nodes l.node) sorts.Truth is.1)) ∙ here.1

  clause_holds : (clause : Clause) → are_literals nodes clause ≡ true → Holds depth world assignment nodes clause → clause_truth in_table clause ≡ true
  clause_holds [] are held = absurd cc
  clause_holds (l ∷ others) are held =
      let parts = and_parts (is_formula nodes l.node) (are_literals nodes others) are in
      by parts.0 (clause_holds others parts.1) (or_cases (is_held depth world assignment nodes l) (list_any (is_held depth world assignment nodes) others) held)
    where
      by : is_formula nodes l.node ≡ true → (Holds depth world assignment nodes others → clause_truth in_table others ≡ true)
          → (is_held depth world assignment nodes l ≡ true) ⊎ (list_any (is_held depth world assignment nodes) others ≡ true) → (literal_truth in_table l || clause_truth in_table others) ≡ true
      by formula rest (inl here) = or_left (literal_truth in_table l) (clause_truth in_table others) (literal_holds l formula here)
      by formula rest (inr more) = or_right (literal_truth in_table l) (clause_truth in_table others) (rest more)

  pub clauses_hold : (clauses : List Clause) → list_all (are_literals nodes) clauses ≡ true → AllByRecursion (Holds depth world assignment nodes) clauses → list_all (clause_truth in_table) clauses ≡ true
  clauses_hold [] are hold = refl
  clauses_hold (clause ∷ others) are hold =
      let parts = and_parts (are_literals nodes clause) (list_all (are_literals nodes) others) are in
      and_from (clause_truth in_table clause) (list_all (clause_truth in_table) others) (clause_holds clause parts.0 hold.0) (clauses_hold others parts.1 hold.1)
