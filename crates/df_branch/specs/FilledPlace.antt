-- Places of a search where no clause is open.
use Rattle.std.specs.Prelude.{◌≡◌, ℕ, true, List, Some}
use Rattle.df_form.specs.declared.log.Lit.{Lit}
use Rattle.df_form.specs.Node.{Node}
use Rattle.df_form.specs.Clause.{are_literals}
use Rattle.df_row.specs.Row.{Row}
use Rattle.df_row.specs.Linear.{rows_of}
use Rattle.df_cong.specs.Congruence.{HasLabels}
use Rattle.df_closure.specs.Closure.{GroundClause, after, IsClosed}
use Rattle.df_elim.specs.declared.elimination.Levels.{Levels}
use Rattle.df_elim.specs.Elimination.{IsWhole}
use Rattle.df_closure.specs.Filled.{IsFilled}
use Rattle.df_branch.specs.Place.{IsPlace}
use Rattle.df_branch.specs.ClosedPlace.{IsClosedPlace}

-- No clause is open beside the closed list, and it has these labels.
pub record IsFullPlace (set : List Node) (clauses : List GroundClause) (nodes : List Node) (branch : List Lit) (labels reasons : List ℕ) (facts : List Lit) : Type 0 where
  pub at : IsClosedPlace set clauses nodes branch reasons facts
  pub labels_are : HasLabels nodes facts labels
  pub filled : IsFilled clauses (after branch at.learned)

-- Its rows have all these levels too.
pub record IsFilledPlace (set : List Node) (clauses : List GroundClause) (nodes : List Node) (branch : List Lit) (levels : Levels) (labels : List ℕ) (facts : List Lit) : Type 0 where
  pub place : IsPlace set clauses nodes branch
  pub reasons : List ℕ
  pub learned : List Lit
  pub closed : IsClosed clauses branch reasons learned
  pub facts_are : facts ≡ after branch learned
  pub formulas : are_literals nodes facts ≡ true
  pub labels_are : HasLabels nodes facts labels
  pub rows : List Row
  pub rows_are : rows_of nodes (after branch learned) ≡ Some rows
  pub whole : IsWhole rows levels
  pub filled : IsFilled clauses (after branch learned)
