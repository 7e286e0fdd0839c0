-- A connective's clause whose literals stand makes no node.
use Rattle.std.proofs.Common.{◌≡◌, ℕ, zero, suc, ◌<◌, true, nat_lt, List, [], ◌∷◌, length, Option, None, Some, slice_get, refl, sym, ap, ◌∙◌, subst, arith, ltb-true}
use Rattle.std.proofs.lemmas.Option.{same_Some}
use Rattle.std.proofs.lemmas.Bool.{and_parts}
use Rattle.df_lemmas.proofs.Options.{map_some}
use Rattle.df_form.specs.declared.node.Sort.{Sort}
use Rattle.df_form.specs.declared.node.Sort.TheVariants as sorts
use Rattle.df_form.specs.declared.node.Op.{Op}
use Rattle.df_form.specs.declared.node.Op.TheVariants as ops
use Rattle.df_form.specs.Node.{Node, number_of, same_sort}
use Rattle.df_form.specs.Sorting.{sort_at, is_formula}
use Rattle.df_form.specs.Made.{made, made_where}
use Rattle.df_form.specs.Clause.{Clause, yes, no, are_literals}
use Rattle.df_rules.specs.Bound.{at_most}
use Rattle.df_rules.specs.Connective.{Added, chosen, not_clauses, and_clauses, or_clauses, implies_clauses, iff_clauses, equal_clause, equal_by_sort, connective_clause}

made_inside : (nodes : List Node) (node : Node) → (made nodes node).number < length nodes → (made nodes node).nodes ≡ nodes
made_inside nodes node less = by (number_of nodes node) less
  where
    by : (found : Option ℕ) → (made_where nodes node found).number < length nodes → (made_where nodes node found).nodes ≡ nodes
    by None inside = absurd (omega (arith, inside))
    by (Some n) inside = refl

formula_inside : (nodes : List Node) (n : ℕ) → is_formula nodes n ≡ true → n < length nodes
formula_inside nodes n e = ltb-true n (length nodes) (and_parts (nat_lt n (length nodes)) (same_sort (sort_at nodes n) sorts.Truth) e).0

module _ (nodes : List Node) where
  second : (n m : ℕ) (others : Clause) → are_literals nodes (no n ∷ yes m ∷ others) ≡ true → m < length nodes
  second n m others e = formula_inside nodes m (and_parts (is_formula nodes m) (are_literals nodes others) (and_parts (is_formula nodes n) (are_literals nodes (yes m ∷ others)) e).1).0

  chosen_inside : (clauses : List Clause) (k : ℕ) (added : Added) → chosen nodes clauses k ≡ Some added → added.nodes ≡ nodes
  chosen_inside clauses k added e =
      let found = map_some (λ (clause : Clause). record { nodes = nodes; clause = clause }) (slice_get clauses k) added e in
      ap (λ (x : Added). x.nodes) (sym found.2)

  equal_inside : (n a b k : ℕ) (added : Added) → equal_clause nodes n a b k ≡ Some added → are_literals nodes added.clause ≡ true → added.nodes ≡ nodes
  equal_inside n a b zero added e all =
      let up = made nodes (at_most a b) in
      let same = same_Some (record { nodes = up.nodes; clause = no n ∷ yes up.number ∷ [] }) added e in
      let literals = subst (λ (x : Added). are_literals nodes x.clause ≡ true) (sym same) all in
      ap (λ (x : Added). x.nodes) (sym same) ∙ made_inside nodes (at_most a b) (second n up.number [] literals)
  equal_inside n a b (suc zero) added e all =
      let down = made nodes (at_most b a) in
      let same = same_Some (record { nodes = down.nodes; clause = no n ∷ yes down.number ∷ [] }) added e in
      let literals = subst (λ (x : Added). are_literals nodes x.clause ≡ true) (sym same) all in
      ap (λ (x : Added). x.nodes) (sym same) ∙ made_inside nodes (at_most b a) (second n down.number [] literals)
  equal_inside n a b (suc (suc zero)) added e all =
      let up = made nodes (at_most a b) in
      let down = made up.nodes (at_most b a) in
      let same = same_Some (record { nodes = down.nodes; clause = yes n ∷ no up.number ∷ no down.number ∷ [] }) added e in
      let literals = subst (λ (x : Added). are_literals nodes x.clause ≡ true) (sym same) all in
      let later = (and_parts (is_formula nodes n) (are_literals nodes (no up.number ∷ no down.number ∷ [])) literals).1 in
      let parts = and_parts (is_formula nodes up.number) (are_literals nodes (no down.number ∷ [])) later in
      let first = made_inside nodes (at_most a b) (formula_inside nodes up.number parts.0) in
      let last = formula_inside nodes down.number (and_parts (is_formula nodes down.number) true parts.1).0 in
      let there : down.number < length up.nodes = subst (λ (ns : List Node). down.number < length ns) (sym first) last in
      ap (λ (x : Added). x.nodes) (sym same) ∙ made_inside up.nodes (at_most b a) there ∙ first
  equal_inside n a b (suc (suc (suc k))) added e all = absurd cc

  sides_inside : (sort : Sort) (n a b k : ℕ) (added : Added) → equal_by_sort sort nodes n a b k ≡ Some added → are_literals nodes added.clause ≡ true → added.nodes ≡ nodes
  sides_inside sorts.Number n a b k added e all = equal_inside n a b k added e all
  sides_inside sorts.Truth n a b k added e all = absurd cc
  sides_inside sorts.Character n a b k added e all = absurd cc

  pub clause_inside : (n k : ℕ) (op : Op) (parts : List ℕ) (added : Added) → connective_clause nodes n k op parts ≡ Some added → are_literals nodes added.clause ≡ true → added.nodes ≡ nodes
  clause_inside n k ops.Not (p ∷ []) added e all = chosen_inside (not_clauses n p) k added e
  clause_inside n k ops.And parts added e all = chosen_inside (and_clauses n parts) k added e
  clause_inside n k ops.Or parts added e all = chosen_inside (or_clauses n parts) k added e
  clause_inside n k ops.Implies (a ∷ b ∷ []) added e all = chosen_inside (implies_clauses n a b) k added e
  clause_inside n k ops.Iff (a ∷ b ∷ []) added e all = chosen_inside (iff_clauses n a b) k added e
  clause_inside n k ops.Equal (a ∷ b ∷ []) added e all = sides_inside (sort_at nodes a) n a b k added e all
  clause_inside n k op parts added e all = absurd cc
