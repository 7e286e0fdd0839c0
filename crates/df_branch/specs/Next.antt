-- Decisions of a search, whatever the rows say of the lists before them.
use Rattle.std.specs.Prelude.{◌≡◌, ℕ, true, false, List, map}
use Rattle.df_form.specs.declared.log.Lit.{Lit}
use Rattle.df_form.specs.Node.{Node}
use Rattle.df_form.specs.Clause.{negation, is_among, are_literals}
use Rattle.df_closure.specs.Closure.{GroundClause, after, IsClosed}
use Rattle.df_classes.specs.Equal.{IsContradicted}
use Rattle.df_branch.specs.Evidence.{IsSideOf, IsDecision}

-- The closed list of a list stands, and congruence doesn't contradict it. Its rows may be refuted.
pub record IsQuiet (nodes : List Node) (clauses : List GroundClause) (list : List Lit) (learned : List Lit) : Type 0 where
  pub reasons : List ℕ
  pub closed : IsClosed clauses list reasons learned
  pub formulas : are_literals nodes (after list learned) ≡ true
  pub quiet : IsContradicted nodes (map negation (after list learned)) → ⊥

-- A literal, one side of a decision, comes next to such a list: it is undecided in its closed list.
pub record ComesNext (set nodes : List Node) (clauses : List GroundClause) (list : List Lit) (literal : Lit) : Type 0 where
  pub learned : List Lit
  pub quiet : IsQuiet nodes clauses list learned
  pub not_true : is_among (after list learned) literal ≡ false
  pub not_false : is_among (after list learned) (negation literal) ≡ false
  pub decision : IsSideOf (IsDecision set nodes clauses list learned) literal
