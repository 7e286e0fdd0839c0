-- Lists of literals that leave no clause of a ground set open.
use Rattle.std.specs.Prelude.{◌≡◌, ℕ, true, false, List, slice_get, Some}
use Rattle.std.specs.List.{list_any}
use Rattle.df_form.specs.declared.log.Lit.{Lit}
use Rattle.df_form.specs.Clause.{is_among}
use Rattle.df_closure.specs.Closure.{GroundClause, counts_for}
pub use Rattle.df_clause.specs.Comparing.{is_comparing, AreComparing}

-- the clause counts beside known literals, and none of its literals is known
pub record IsOpenClause (clauses : List GroundClause) (known : List Lit) (clause : GroundClause) : Type 0 where
  pub number : ℕ
  pub there : slice_get clauses number ≡ Some clause
  pub counts : counts_for known clause.bound ≡ true
  pub none : list_any (is_among known) clause.literals ≡ false

-- no clause is open
abbrev pub IsFilled : List GroundClause → List Lit → Type 0
IsFilled clauses known = (clause : GroundClause) → IsOpenClause clauses known clause → ⊥
