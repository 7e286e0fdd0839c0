-- A clause is the same among nodes that hold all that it made.
use Rattle.std.proofs.Common.{◌≡◌, ℕ, zero, suc, List, [], ◌∷◌, Some, None, slice_get, refl, sym, ap, ◌∙◌, subst}
use Rattle.std.specs.Option.{option_map}
use Rattle.std.proofs.lemmas.Option.{same_Some}
use Rattle.df_lemmas.proofs.Options.{map_some}
use Rattle.df_form.specs.declared.node.Sort.{Sort}
use Rattle.df_form.specs.declared.node.Sort.TheVariants as sorts
use Rattle.df_form.specs.declared.node.Op.{Op}
use Rattle.df_form.specs.declared.node.Op.TheVariants as ops
use Rattle.df_form.specs.Node.{Node}
use Rattle.df_form.specs.Sorting.{IsTable, sort_at}
use Rattle.df_form.specs.Made.{Made, made}
use Rattle.df_form.specs.Clause.{Clause, yes, no}
use Rattle.df_form.proofs.Values.{Grows, grows_twice, grown_get}
use Rattle.df_form.proofs.Tables.{made_old, number_of_at}
use Rattle.df_rules.specs.Bound.{at_most}
use Rattle.df_rules.specs.Connective.{Added, chosen, not_clauses, and_clauses, or_clauses, implies_clauses, iff_clauses, equal_clause, equal_by_sort, connective_clause}
use Rattle.df_rules.proofs.Growth.{made-at}
use Rattle.df_clause.proofs.Making.{made_grows}

module _ (nodes : List Node) (table : IsTable nodes) where
  -- the clause, with nothing made
  abbrev pub again : Added → Added
  again added = record { nodes = nodes; clause = added.clause }

  -- what was made stands
  made_again : (before : List Node) (node : Node) → Grows (made before node).nodes nodes → made nodes node ≡ record { nodes = nodes; number = (made before node).number }
  made_again before node g =
      let m = made before node in
      let there = grown_get m.nodes nodes g m.number node (made-at before node m refl) in
      made_old nodes node m.number (number_of_at nodes node m.number table.distinct there)

  chosen_again : (before : List Node) (clauses : List Clause) (k : ℕ) (added : Added) → chosen before clauses k ≡ Some added → chosen nodes clauses k ≡ Some (again added)
  chosen_again before clauses k added e =
      let found = map_some (λ (clause : Clause). record { nodes = before; clause = clause }) (slice_get clauses k) added e in
      ap (option_map (λ (clause : Clause). record { nodes = nodes; clause = clause })) found.1 ∙ ap (λ (x : Added). Some (again x)) found.2

  equal_again : (before : List Node) (n a b k : ℕ) (added : Added) → equal_clause before n a b k ≡ Some added → Grows added.nodes nodes → equal_clause nodes n a b k ≡ Some (again added)
  equal_again before n a b zero added e g =
      let same = same_Some _ added e in
      let up = made before (at_most a b) in
      let from : Grows up.nodes nodes = subst (λ (x : Added). Grows x.nodes nodes) (sym same) g in
      ap (λ (m : Made). Some (record { nodes = m.nodes; clause = no n ∷ yes m.number ∷ [] })) (made_again before (at_most a b) from) ∙ ap (λ (x : Added). Some (again x)) same
  equal_again before n a b (suc zero) added e g =
      let same = same_Some _ added e in
      let down = made before (at_most b a) in
      let from : Grows down.nodes nodes = subst (λ (x : Added). Grows x.nodes nodes) (sym same) g in
      ap (λ (m : Made). Some (record { nodes = m.nodes; clause = no n ∷ yes m.number ∷ [] })) (made_again before (at_most b a) from) ∙ ap (λ (x : Added). Some (again x)) same
  equal_again before n a b (suc (suc zero)) added e g =
      let same = same_Some _ added e in
      let up = made before (at_most a b) in
      let down = made up.nodes (at_most b a) in
      let from : Grows down.nodes nodes = subst (λ (x : Added). Grows x.nodes nodes) (sym same) g in
      let first = made_again before (at_most a b) (grows_twice up.nodes down.nodes nodes (made_grows up.nodes (at_most b a)) from) in
      let second = made_again up.nodes (at_most b a) from in
      ap (λ (m : Made). Some (record { nodes = (made m.nodes (at_most b a)).nodes; clause = yes n ∷ no m.number ∷ no (made m.nodes (at_most b a)).number ∷ [] })) first
      ∙ ap (λ (m : Made). Some (record { nodes = m.nodes; clause = yes n ∷ no up.number ∷ no m.number ∷ [] })) second
      ∙ ap (λ (x : Added). Some (again x)) same
  equal_again before n a b (suc (suc (suc k))) added e g = absurd cc

  sides_again : (sort : Sort) (before : List Node) (n a b k : ℕ) (added : Added) → equal_by_sort sort before n a b k ≡ Some added → Grows added.nodes nodes → equal_by_sort sort nodes n a b k ≡ Some (again added)
  sides_again sorts.Number before n a b k added e g = equal_again before n a b k added e g
  sides_again sorts.Truth before n a b k added e g = absurd cc
  sides_again sorts.Character before n a b k added e g = absurd cc

  -- the first part is of the same sort
  abbrev pub FirstAlike : List Node → List ℕ → Type 0
  FirstAlike before parts = (a : ℕ) (others : List ℕ) → parts ≡ a ∷ others → sort_at nodes a ≡ sort_at before a

  pub connective_again : (before : List Node) (n k : ℕ) (op : Op) (parts : List ℕ) (added : Added) → FirstAlike before parts → connective_clause before n k op parts ≡ Some added → Grows added.nodes nodes → connective_clause nodes n k op parts ≡ Some (again added)
  connective_again before n k ops.Not (p ∷ []) added alike e g = chosen_again before (not_clauses n p) k added e
  connective_again before n k ops.And parts added alike e g = chosen_again before (and_clauses n parts) k added e
  connective_again before n k ops.Or parts added alike e g = chosen_again before (or_clauses n parts) k added e
  connective_again before n k ops.Implies (a ∷ b ∷ []) added alike e g = chosen_again before (implies_clauses n a b) k added e
  connective_again before n k ops.Iff (a ∷ b ∷ []) added alike e g = chosen_again before (iff_clauses n a b) k added e
  connective_again before n k ops.Equal (a ∷ b ∷ []) added alike e g =
      ap (λ (sort : Sort). equal_by_sort sort nodes n a b k) (alike a (b ∷ []) refl) ∙ sides_again (sort_at before a) before n a b k added e g
  connective_again before n k op parts added alike e g = absurd cc

-- a clause that is one among some nodes is one among others
chosen_too : (nodes before : List Node) (clauses : List Clause) (k : ℕ) (added : Added) → chosen nodes clauses k ≡ Some added → chosen before clauses k ≡ None → ⊥
chosen_too nodes before clauses k added e none =
    let found = map_some (λ (clause : Clause). record { nodes = nodes; clause = clause }) (slice_get clauses k) added e in
    let there : chosen before clauses k ≡ Some (record { nodes = before; clause = found.0 }) = ap (option_map (λ (clause : Clause). record { nodes = before; clause = clause })) found.1 in
    cc

equal_too : (nodes before : List Node) (n a b k : ℕ) (added : Added) → equal_clause nodes n a b k ≡ Some added → equal_clause before n a b k ≡ None → ⊥
equal_too nodes before n a b zero added e none = cc
equal_too nodes before n a b (suc zero) added e none = cc
equal_too nodes before n a b (suc (suc zero)) added e none = cc
equal_too nodes before n a b (suc (suc (suc k))) added e none = cc

sides_too : (sort : Sort) (nodes before : List Node) (n a b k : ℕ) (added : Added) → equal_by_sort sort nodes n a b k ≡ Some added → equal_by_sort sort before n a b k ≡ None → ⊥
sides_too sorts.Number nodes before n a b k added e none = equal_too nodes before n a b k added e none
sides_too sorts.Truth nodes before n a b k added e none = cc
sides_too sorts.Character nodes before n a b k added e none = cc

pub connective_too : (nodes before : List Node) (n k : ℕ) (op : Op) (parts : List ℕ) (added : Added) → ((a : ℕ) (others : List ℕ) → parts ≡ a ∷ others → sort_at nodes a ≡ sort_at before a) → connective_clause nodes n k op parts ≡ Some added → connective_clause before n k op parts ≡ None → ⊥
connective_too nodes before n k ops.Not (p ∷ []) added alike e none = chosen_too nodes before (not_clauses n p) k added e none
connective_too nodes before n k ops.And parts added alike e none = chosen_too nodes before (and_clauses n parts) k added e none
connective_too nodes before n k ops.Or parts added alike e none = chosen_too nodes before (or_clauses n parts) k added e none
connective_too nodes before n k ops.Implies (a ∷ b ∷ []) added alike e none = chosen_too nodes before (implies_clauses n a b) k added e none
connective_too nodes before n k ops.Iff (a ∷ b ∷ []) added alike e none = chosen_too nodes before (iff_clauses n a b) k added e none
connective_too nodes before n k ops.Equal (a ∷ b ∷ []) added alike e none =
    let same = alike a (b ∷ []) refl in
    sides_too (sort_at before a) nodes before n a b k added (ap (λ (sort : Sort). equal_by_sort sort nodes n a b k) (sym same) ∙ e) none
connective_too nodes before n k op parts added alike e none = cc
