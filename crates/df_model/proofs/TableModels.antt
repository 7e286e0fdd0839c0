-- The table of a solution that leaves no clause open is a model of the ground set.
use Rattle.std.proofs.Common.{◌≡◌, ℕ, ◌<◌, ◌⊎◌, inl, inr, ℤ, ◌+ℤ◌, int_le, Bool, true, false, ◌||◌, List, [], ◌∷◌, length, Option, Some, None, slice_get, nat_lt, refl, sym, ap, ◌∙◌, ltb-true}
use Rattle.std.specs.Ordering.{int_eq}
use Rattle.std.specs.List.{list_any}
use Rattle.std.proofs.lemmas.Bool.{and_parts, or_cases, or_left, or_right, cases_Bool}
use Rattle.std.proofs.lemmas.Bool.Decides.{Decides-int_eq}
use Rattle.std.proofs.lemmas.Option.{slice_get-map}
use Rattle.df_lemmas.proofs.Options.{map_some}
use Rattle.df_form.specs.declared.log.Lit.{Lit}
use Rattle.df_form.specs.declared.node.Sort.TheVariants as sorts
use Rattle.df_form.specs.declared.node.Op.{Op}
use Rattle.df_form.specs.declared.node.Op.TheVariants as ops
use Rattle.df_form.specs.Node.{Node, same_sort}
use Rattle.df_form.specs.Sorting.{sort_at, is_formula}
use Rattle.df_form.specs.Sequent.{Sequent}
use Rattle.df_form.specs.Clause.{Clause, is_among, are_literals, literal_truth, clause_truth}
use Rattle.df_form.proofs.Values.{Grows, AreSorted}
use Rattle.df_meaning.specs.Value.{same_truth}
use Rattle.df_row.specs.Row.{literal_number}
use Rattle.df_clause.specs.declared.ground.Ground.{Ground}
use Rattle.df_clause.specs.GroundClause.{GroundClause}
use Rattle.df_clause.specs.GroundView.{IsGround, literals_of, state_of}
use Rattle.df_closure.specs.Closure.{counts_for}
use Rattle.df_closure.specs.Filled.{IsFilled}
use Rattle.df_closure.specs.Reading.{IsReading}
use Rattle.df_table.specs.TableModel.{number_at, is_true, is_multiple, is_exact, Agree, IsTableModel}
use Rattle.df_model.specs.TableNumbers.{basis_of}
use Rattle.df_model.specs.Tabulation.{IsWholeTable}
use Rattle.df_model.specs.Solution.{IsSolution}
use Rattle.df_model.proofs.Tests.{each_passes, passes_at}
use Rattle.df_model.proofs.TableReadings.{equality_read, table_reads}
use Rattle.df_model.proofs.SolvedTables.{solved_first}
use Rattle.df_model.proofs.EqualityClauses.{bound_true}

same_number : (a b : ℤ) → a ≡ b → int_eq a b ≡ true
same_number a b e = (Decides-int_eq a b).1 e

itself : (b : Bool) → same_truth b b ≡ true
itself true = refl
itself false = refl

same_bits : (a b : Bool) → a ≡ b → same_truth a b ≡ true
same_bits a b e = ap (λ c. same_truth c b) e ∙ itself b

module _ (nodes : List Node) (table : List ℤ) (reading : IsReading nodes (number_at table) (is_true table))
    (equality : (n a b : ℕ) → slice_get nodes n ≡ Some (record { op = ops.Equal; parts = a ∷ b ∷ [] }) → is_true table n ≡ int_eq (number_at table a) (number_at table b)) where
  multiple_is : (n a b : ℕ) (factor : Option ℤ) → literal_number (slice_get nodes a) ≡ factor → slice_get nodes n ≡ Some (record { op = ops.Times; parts = a ∷ b ∷ [] }) → is_multiple factor (number_at table b) (number_at table n) ≡ true
  multiple_is n a b None found at = refl
  multiple_is n a b (Some k) found at = same_number _ _ (sym (reading.exact.multiple n a b k at found))

  exact_by : (n : ℕ) (op : Op) (parts : List ℕ) → slice_get nodes n ≡ Some (record { op = op; parts = parts }) → is_exact nodes table n op parts ≡ true
  exact_by n (ops.Number k) parts at = same_number k (number_at table n) (sym (reading.exact.literal n k parts at))
  exact_by n ops.Plus (a ∷ b ∷ []) at = same_number (number_at table a +ℤ number_at table b) (number_at table n) (sym (reading.exact.plus n a b at))
  exact_by n ops.Times (a ∷ b ∷ []) at = multiple_is n a b (literal_number (slice_get nodes a)) refl at
  exact_by n ops.Equal (a ∷ b ∷ []) at = same_bits (is_true table n) (int_eq (number_at table a) (number_at table b)) (equality n a b at)
  exact_by n ops.AtMost (a ∷ b ∷ []) at = same_bits (is_true table n) (int_le (number_at table a) (number_at table b)) (reading.at_most n a b at)
  exact_by n op parts at = refl

  pub exact : (n : ℕ) (node : Node) → slice_get nodes n ≡ Some node → is_exact nodes table n node.op node.parts ≡ true
  exact n node at = exact_by n node.op node.parts at

module _ (s : Sequent) (g : Ground) (is : IsGround s g) (nodes : List Node) (grows : Grows g.nodes nodes) (known : List Lit) (filled : IsFilled g.clauses known)
    (numbers : List ℤ) (labels : List ℕ) (solution : IsSolution nodes known numbers labels) (table : List ℤ) (whole : IsWholeTable (basis_of numbers labels known) g.nodes table) where
  set_sorted : AreSorted g.nodes
  set_sorted = record { sorted = is.table.sorted }

  abbrev t : ℕ → Bool
  t n = is_true table n

  -- a clause with a known literal
  some_true : (clause : Clause) → are_literals g.nodes clause ≡ true → list_any (is_among known) clause ≡ true → clause_truth t clause ≡ true
  some_true [] are any = absurd cc
  some_true (l ∷ others) are any =
      let parts = and_parts (is_formula g.nodes l.node) (are_literals g.nodes others) are in
      let inside = ltb-true l.node (length g.nodes) (and_parts (nat_lt l.node (length g.nodes)) (same_sort (sort_at g.nodes l.node) sorts.Truth) parts.0).0 in
      by inside (or_cases (is_among known l) (list_any (is_among known) others) any) (some_true others parts.1)
    where
      by : l.node < length g.nodes → (is_among known l ≡ true) ⊎ (list_any (is_among known) others ≡ true) → (list_any (is_among known) others ≡ true → clause_truth t others ≡ true) → (literal_truth t l || clause_truth t others) ≡ true
      by inside (inl here) go = or_left (literal_truth t l) (clause_truth t others) (solved_first nodes known numbers labels solution g.nodes grows set_sorted table whole l here inside)
      by inside (inr rest) go = or_right (literal_truth t l) (clause_truth t others) (go rest)

  counted_true : (i : ℕ) (clause : GroundClause) → slice_get g.clauses i ≡ Some clause → are_literals g.nodes clause.literals ≡ true → clause.bound ≡ None → clause_truth t clause.literals ≡ true
  counted_true i clause at are free = some_true clause.literals are (by (cases_Bool (list_any (is_among known) clause.literals)))
    where
      by : (list_any (is_among known) clause.literals ≡ true) ⊎ (list_any (is_among known) clause.literals ≡ false) → list_any (is_among known) clause.literals ≡ true
      by (inl one) = one
      by (inr none) = absurd (filled clause (record { number = i; there = at; counts = ap (counts_for known) free; none = none }))

  clause_at : (i : ℕ) (clause : GroundClause) (bound : Option ℕ) → slice_get g.clauses i ≡ Some clause → are_literals g.nodes clause.literals ≡ true → clause.bound ≡ bound → clause_truth t clause.literals ≡ true
  clause_at i clause None at are bound = counted_true i clause at are bound
  clause_at i clause (Some n) at are bound = bound_true s g is (number_at table) t (table_reads (basis_of numbers labels known) g.nodes set_sorted table whole) i n clause at bound

  clauses_true : (i : ℕ) (clause : Clause) → slice_get (state_of g).clauses i ≡ Some clause → clause_truth t clause ≡ true
  clauses_true i clause at =
      let found = map_some literals_of (slice_get g.clauses i) clause (sym (slice_get-map literals_of g.clauses i) ∙ at) in
      let are = passes_at (λ (c : GroundClause). are_literals g.nodes c.literals) g.clauses i found.0 is.literals found.1 in
      ap (clause_truth t) (sym found.2) ∙ clause_at i found.0 found.0.bound found.1 are refl

  pub table_is_model : ((m n : ℕ) → Agree g.nodes table m n) → IsTableModel (state_of g) table
  table_is_model agree = record {
    covers = whole.covers;
    congruent = λ m n less other. agree m n;
    exact = exact g.nodes table (table_reads (basis_of numbers labels known) g.nodes set_sorted table whole) (equality_read (basis_of numbers labels known) g.nodes set_sorted table whole);
    clauses = each_passes (clause_truth t) (state_of g).clauses clauses_true;
  }
