-- Places of a search whose closed list is there.
use Rattle.std.specs.Prelude.{◌≡◌, ℕ, true, List}
use Rattle.df_form.specs.declared.log.Lit.{Lit}
use Rattle.df_form.specs.Node.{Node}
use Rattle.df_form.specs.Clause.{are_literals}
use Rattle.df_closure.specs.Closure.{GroundClause, after, IsClosed}
use Rattle.df_branch.specs.Place.{IsPlace}

-- The facts are the closed list of the branch, by the clauses of these numbers.
pub record IsClosedPlace (set : List Node) (clauses : List GroundClause) (nodes : List Node) (branch : List Lit) (reasons : List ℕ) (facts : List Lit) : Type 0 where
  pub place : IsPlace set clauses nodes branch
  pub learned : List Lit
  pub closed : IsClosed clauses branch reasons learned
  pub facts_are : facts ≡ after branch learned

-- The facts are the closed list of a list, by the clauses of these numbers, and of formulas.
pub record IsClosedAt (clauses : List GroundClause) (nodes : List Node) (list : List Lit) (reasons : List ℕ) (facts : List Lit) : Type 0 where
  pub learned : List Lit
  pub closed : IsClosed clauses list reasons learned
  pub facts_are : facts ≡ after list learned
  pub formulas : are_literals nodes facts ≡ true
