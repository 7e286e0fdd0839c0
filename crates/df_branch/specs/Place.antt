-- Places of a search.
use Rattle.std.specs.Prelude.{◌≡◌, ℕ, true, List, [], ◌∷◌, take, length, slice_get, Some}
use Rattle.std.specs.List.{list_all}
use Rattle.df_form.specs.declared.log.Lit.{Lit}
use Rattle.df_form.specs.Node.{Node}
use Rattle.df_form.specs.Sorting.{IsTable}
use Rattle.df_form.specs.Clause.{yes, no, are_literals}
use Rattle.df_rules.specs.Connective.{Added, connective_line}
use Rattle.df_clause.specs.Among.{Among}
use Rattle.df_clause.specs.Lines.{bound_by}
use Rattle.df_closure.specs.Closure.{GroundClause}
use Rattle.df_closure.specs.Full.{IsConsistent}

-- Among the clauses is whatever a connective means.
pub record HaveMeanings (nodes : List Node) (clauses : List GroundClause) : Type 0 where
  pub connectives : (n k : ℕ) (node : Node) (added : Added) → slice_get nodes n ≡ Some node → connective_line nodes n k ≡ Some added → (added.nodes ≡ nodes) × Among clauses (record { literals = added.clause; bound = bound_by n node.op })

-- what an equality of numbers means by its two comparisons
abbrev pub equality_clauses : ℕ → ℕ → ℕ → List GroundClause
equality_clauses n up down =
    record { literals = no n ∷ yes up ∷ []; bound = Some n }
    ∷ record { literals = no n ∷ yes down ∷ []; bound = Some n }
    ∷ record { literals = yes n ∷ no up ∷ no down ∷ []; bound = Some n }
    ∷ []

-- A search stands at a place: nodes that begin with those of the ground set; the literals of clauses and of the branch are
-- of formulas, and no two of the branch contradict each other; what the nodes mean is among the clauses.
pub record IsPlace (set : List Node) (clauses : List GroundClause) (nodes : List Node) (branch : List Lit) : Type 0 where
  pub table : IsTable nodes
  pub begins : take (length set) nodes ≡ set
  pub formulas : are_literals nodes branch ≡ true
  pub consistent : IsConsistent branch
  pub clause_formulas : list_all (λ (clause : GroundClause). are_literals nodes clause.literals) clauses ≡ true
  pub meanings : HaveMeanings nodes clauses
