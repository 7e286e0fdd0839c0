-- Ground clauses among those of a log.
use Rattle.std.specs.Prelude.{◌≡◌, ℕ, List, slice_get, Some}
use Rattle.df_form.specs.Clause.{Clause}
use Rattle.df_closure.specs.Closure.{GroundClause}

-- the clauses stand in a log under their numbers
pub record AreIn (clauses : List GroundClause) (log : List Clause) : Type 0 where
  pub at : (n : ℕ) (clause : GroundClause) → slice_get clauses n ≡ Some clause → slice_get log n ≡ Some clause.literals
