-- How the code closes a list.
use Rattle.std.specs.Prelude.{◌≡◌, ℕ, suc, ◌+◌, ◌<◌, Bool, true, List, [], ◌∷◌, Option, None, Some, if◌then◌else◌}
use Rattle.df_form.specs.declared.log.Lit.{Lit}
use Rattle.df_form.specs.Clause.{Clause, is_among}
use Rattle.df_rules.specs.Propagation.{left, only, is_empty}
use Rattle.df_rules.specs.Known.{knows, IsSetOf}
use Rattle.df_closure.specs.declared.closing.Teaching.{Teaching}
use Rattle.df_closure.specs.declared.closing.Teaching.TheVariants as teachings
use Rattle.df_closure.specs.declared.closing.Round.{Round}
use Rattle.df_closure.specs.declared.closing.Round.TheVariants as rounds
use Rattle.df_closure.specs.declared.closing.Closing.{Closing}
use Rattle.df_closure.specs.Closure.{GroundClause, counts_for, Teaches, Refutes, Taught, after}

abbrev pub teaching_left : List Lit → Option Lit → Teaching
teaching_left known None = teachings.Nothing
teaching_left known (Some literal) = if is_among known literal then teachings.Nothing else teachings.Literal literal

-- what a clause teaches beside known literals
abbrev pub teaching : List Lit → GroundClause → Teaching
teaching known clause =
    if counts_for known clause.bound then (if is_empty (left known clause.literals) then teachings.Refuted else teaching_left known (only (left known clause.literals))) else teachings.Nothing

-- how many literals of a clause are not known
abbrev pub unknown_in : (Lit → Bool) → Clause → ℕ
unknown_in known [] = 0
unknown_in known (literal ∷ others) = if known literal then unknown_in known others else suc (unknown_in known others)

abbrev pub unknown : (Lit → Bool) → List GroundClause → ℕ
unknown known [] = 0
unknown known (clause ∷ others) = unknown_in known clause.literals + unknown known others

-- what was learned is taught one after another, and the set has it all
pub record IsClosing (clauses : List GroundClause) (list : List Lit) (closing : Closing) : Type 0 where
  pub taught : Taught clauses list closing.reasons.items closing.learned.items
  pub set : IsSetOf (after list closing.learned.items) closing.known

-- no clause teaches anything new, and none is false
pub record IsSettled (clauses : List GroundClause) (known : List Lit) : Type 0 where
  pub settled : (number : ℕ) (literal : Lit) → Teaches clauses known number literal → is_among known literal ≡ true
  pub stands : (number : ℕ) → Refutes clauses known number → ⊥

-- what one way through the clauses leaves
abbrev pub Rounds : List GroundClause → Closing → Closing → Round → Type 0
Rounds clauses old new rounds.Settled = (list : List Lit) → IsClosing clauses list old → IsClosing clauses list new × IsSettled clauses (after list new.learned.items)
Rounds clauses old new rounds.Grown = (list : List Lit) → IsClosing clauses list old → IsClosing clauses list new × (unknown (knows new.known) clauses < unknown (knows old.known) clauses)
Rounds clauses old new (rounds.Refuted number) = (list : List Lit) → IsClosing clauses list old → IsClosing clauses list new × Refutes clauses (after list new.learned.items) number
