-- What the functions on open clauses answer.
use Rattle.std.specs.Prelude.{◌≡◌, true, false, List, Option, Some, None}
use Rattle.std.specs.List.{list_any}
use Rattle.df_form.specs.declared.log.Lit.{Lit}
use Rattle.df_form.specs.Clause.{Clause, negation, is_among}
use Rattle.df_rules.specs.Propagation.{left, is_empty}
use Rattle.df_closure.specs.Closure.{GroundClause, counts_for}
use Rattle.df_closure.specs.Filled.{IsOpenClause}

-- a literal of the clause that is not false, or that all are
abbrev pub TellsUndecided : List Lit → Clause → Option Lit → Type 0
TellsUndecided known clause (Some l) = (is_among clause l ≡ true) × (is_among known (negation l) ≡ false)
TellsUndecided known clause None = is_empty (left known clause) ≡ true

-- a clause that counts, none of whose literals is known
pub record IsUnmet (known : List Lit) (clause : GroundClause) : Type 0 where
  pub counts : counts_for known clause.bound ≡ true
  pub none : list_any (is_among known) clause.literals ≡ false

abbrev pub TellsMember : List Lit → GroundClause → Option Lit → Type 0
TellsMember known clause (Some l) = IsUnmet known clause × (is_among clause.literals l ≡ true) × (is_among known (negation l) ≡ false)
TellsMember known clause None = IsUnmet known clause → is_empty (left known clause.literals) ≡ true

-- an undecided literal of an open clause
pub record IsOpenMember (clauses : List GroundClause) (known : List Lit) (l : Lit) : Type 0 where
  pub clause : GroundClause
  pub is_open : IsOpenClause clauses known clause
  pub in_clause : is_among clause.literals l ≡ true
  pub not_false : is_among known (negation l) ≡ false

-- such a literal, or that each open clause is false
abbrev pub TellsOpen : List GroundClause → List Lit → Option Lit → Type 0
TellsOpen clauses known (Some l) = IsOpenMember clauses known l
TellsOpen clauses known None = (clause : GroundClause) → IsOpenClause clauses known clause → is_empty (left known clause.literals) ≡ true
