-- Where no clause is open, a point of the rows and the labels of congruence solve the closed list.
use Rattle.std.proofs.Common.{◌≡◌, ◌⊎◌, inl, inr, ℕ, ℤ, true, false, List, [], ◌∷◌, map, length, slice_get, refl, sym, subst, true≢false}
use Rattle.std.specs.List.{list_any}
use Rattle.std.proofs.lemmas.Bool.{cases_Bool, or_cases}
use Rattle.df_lemmas.proofs.Options.{then_some}
use Rattle.df_form.specs.declared.log.Lit.{Lit}
use Rattle.df_form.specs.declared.node.Op.{Op}
use Rattle.df_form.specs.declared.node.Op.TheVariants as ops
use Rattle.df_form.specs.Node.{Node}
use Rattle.df_form.specs.Clause.{is_among, are_literals}
use Rattle.df_row.specs.Value.{rows_hold}
use Rattle.df_rules.specs.Connective.{connective_clause}
use Rattle.df_clause.specs.Among.{Among}
use Rattle.df_clause.specs.Lines.{bound_by}
use Rattle.df_cong.specs.Congruence.{HasLabels}
use Rattle.df_closure.specs.Closure.{GroundClause, counts_for, after}
use Rattle.df_closure.specs.Full.{IsConsistent, knows_of, AreConnectivesMet}
use Rattle.df_level.specs.Levels.{level_rows}
use Rattle.df_elim.specs.declared.elimination.Levels.{Levels}
use Rattle.df_elim.proofs.Telling.{lists_tell}
use Rattle.df_back.specs.BackView.{IsPoint, numbers_of}
use Rattle.df_model.specs.Solution.{IsSolution}
use Rattle.df_branch.specs.FilledPlace.{IsFilledPlace}
use Rattle.df_branch.proofs.Consistency.{consistent_after}
use Rattle.df_branch.proofs.Points.{all_hold}

-- a known equality counts, and other nodes bind nothing
counts_by : (known : List Lit) (n : ℕ) (op : Op) → knows_of known n ≡ true → counts_for known (bound_by n op) ≡ true
counts_by known n ops.Equal knows = knows
counts_by known n op knows = refl

one_is : (known : List Lit) (l : Lit) → list_any (is_among known) (l ∷ []) ≡ true → is_among known l ≡ true
one_is known l any = next (or_cases (is_among known l) false any)
  where
    next : (is_among known l ≡ true) ⊎ (false ≡ true) → is_among known l ≡ true
    next (inl e) = e
    next (inr e) = absurd (true≢false (sym e))

module _ (set : List Node) (clauses : List GroundClause) (nodes : List Node) (branch : List Lit) (levels : Levels) (labels : List ℕ) (facts : List Lit) (p : IsFilledPlace set clauses nodes branch levels labels facts) where
  abbrev known : List Lit
  known = after branch p.learned

  pub formulas : are_literals nodes known ≡ true
  formulas = subst (λ (l : List Lit). are_literals nodes l ≡ true) p.facts_are p.formulas

  pub labels_are : HasLabels nodes known labels
  labels_are = subst (λ (l : List Lit). HasLabels nodes l labels) p.facts_are p.labels_are

  -- a clause that counts has a known literal
  one_known : (clause : GroundClause) → Among clauses clause → counts_for known clause.bound ≡ true → list_any (is_among known) clause.literals ≡ true
  one_known clause there counts = by (cases_Bool (list_any (is_among known) clause.literals))
    where
      by : (list_any (is_among known) clause.literals ≡ true) ⊎ (list_any (is_among known) clause.literals ≡ false) → list_any (is_among known) clause.literals ≡ true
      by (inl one) = one
      by (inr none) = absurd (p.filled clause (record { number = there.0; there = there.1; counts = counts; none = none }))

  connectives : AreConnectivesMet nodes known
  connectives n k added knows line =
      let node = then_some (λ (node : Node). connective_clause nodes n k node.op node.parts) (slice_get nodes n) added line in
      let has = p.place.meanings.connectives n k node.0 added node.1 line in
      record { stands = has.0; one = one_known (record { literals = added.clause; bound = bound_by n node.0.op }) has.1 (counts_by known n node.0.op knows) }

  consistent : IsConsistent known
  consistent = consistent_after clauses branch p.reasons p.learned p.closed.taught p.place.consistent

  module _ (numbers : List ℤ) (point : IsPoint (length nodes) (level_rows levels.first) levels.variables.items (map level_rows levels.others.items) numbers) where
    met : rows_hold (length nodes) (numbers_of numbers) p.rows ≡ true
    met = lists_tell (length nodes) (numbers_of numbers) p.rows (level_rows levels.first) p.whole.elimination.is_first (all_hold (length nodes) (numbers_of numbers) (level_rows levels.first) point.holds)

    pub solution : IsSolution nodes known numbers labels
    solution = record {
      table = p.place.table;
      formulas = formulas;
      consistent = consistent;
      connectives = connectives;
      labels_are = labels_are;
      rows = p.rows;
      rows_are = p.rows_are;
      met = met;
    }
