-- What the steps of a search do.
use Rattle.std.specs.Prelude.{◌≡◌, ℕ, ℤ, true, List, [], ◌∷◌, ◌++◌, map, slice_get, Some}
use Rattle.df_form.specs.declared.log.Lit.{Lit}
use Rattle.df_form.specs.declared.log.Combination.{Combination}
use Rattle.df_form.specs.Node.{Node}
use Rattle.df_form.specs.Sorting.{is_formula}
use Rattle.df_form.specs.Clause.{Clause, yes, no, negation}
use Rattle.df_form.specs.Sequent.{Sequent}
use Rattle.df_form.specs.Log.{combination_of}
use Rattle.df_row.specs.Row.{Row}
use Rattle.df_row.specs.Linear.{refutes}
use Rattle.df_rules.specs.Connective.{connective_line}
use Rattle.df_rules.specs.Propagation.{left, is_empty, propagation_line}
use Rattle.df_cong.specs.declared.answer.Reason.{Reason}
use Rattle.df_closure.specs.Closure.{GroundClause, Taught, after, IsClosed, IsRefuted}
use Rattle.df_logbuild.specs.Runs.{Runs}
use Rattle.df_trail.specs.declared.decision.Conflict.{Conflict}
use Rattle.df_trail.specs.Trail.{branch_of, HasAll}
use Rattle.df_branch.specs.Evidence.{IsShut}
use Rattle.df_branch.specs.Next.{ComesNext}
use Rattle.df_branch.specs.Place.{equality_clauses}
use Rattle.df_branch.specs.Leaf.{IsUnsolvable, IsIncongruent, IsBetweenLeaf, IsApartLeaf}
use Rattle.df_search.specs.Places.{AreIn}
use Rattle.df_search.specs.declared.searching.State.{State}
use Rattle.df_search.specs.Searching.{clauses_of, IsSearching, Searches, IsFinished, Finishes}

-- Whatever sequent the search is for: clauses of the log say that literals of the branch, which is shut, are not all true.
abbrev pub Propagates : State → List ℕ → List Lit → State → Conflict → Type 0
Propagates old numbers list new conflict =
    (s : Sequent) (rounds : ℕ) (all : List Clause) → IsSearching s rounds all old → IsShut old.derivation.nodes (clauses_of old) (branch_of old.trail) → HasAll (branch_of old.trail) list
    → propagation_line old.derivation.nodes all numbers (map negation list) ≡ Some (map negation list) → IsFinished s rounds all new conflict

-- a clause is false beside the list
abbrev pub RefutesList : State → List Lit → List ℕ → State → Conflict → Type 0
RefutesList old list numbers new conflict =
    (s : Sequent) (rounds : ℕ) (all : List Clause) → IsSearching s rounds all old → IsShut old.derivation.nodes (clauses_of old) (branch_of old.trail) → HasAll (branch_of old.trail) list → IsRefuted (clauses_of old) list numbers → IsFinished s rounds all new conflict

-- a clause of the log is false beside what is taught beside the list
abbrev pub RefutesListBy : State → List Lit → List ℕ → ℕ → State → Conflict → Type 0
RefutesListBy old list reasons last new conflict =
    (s : Sequent) (rounds : ℕ) (all : List Clause) (learned : List Lit) (clause : Clause) → IsSearching s rounds all old → IsShut old.derivation.nodes (clauses_of old) (branch_of old.trail) → HasAll (branch_of old.trail) list
    → Taught (clauses_of old) list reasons learned → slice_get all last ≡ Some clause → is_empty (left (after list learned) clause) ≡ true → IsFinished s rounds all new conflict

-- a clause is false beside the branch
abbrev pub Refutes : State → List ℕ → State → Conflict → Type 0
Refutes old numbers new conflict = (s : Sequent) (rounds : ℕ) → Searches s rounds old → IsRefuted (clauses_of old) (branch_of old.trail) numbers → Finishes s rounds new conflict

-- a clause of the log is false beside the closed list
abbrev pub RefutesBy : State → List ℕ → Clause → ℕ → State → Conflict → Type 0
RefutesBy old reasons clause last new conflict =
    (s : Sequent) (rounds : ℕ) (all : List Clause) (learned : List Lit) → IsSearching s rounds all old → IsShut old.derivation.nodes (clauses_of old) (branch_of old.trail) → IsClosed (clauses_of old) (branch_of old.trail) reasons learned
    → slice_get all last ≡ Some clause → is_empty (left (after (branch_of old.trail) learned) clause) ≡ true → IsFinished s rounds all new conflict

-- the rows of the closed list are refuted
abbrev pub Solves : State → List ℕ → List Lit → List Combination → State → Conflict → Type 0
Solves old reasons facts combinations new conflict =
    (s : Sequent) (rounds : ℕ) (rows : List Row) → Searches s rounds old → IsUnsolvable (clauses_of old) old.derivation.nodes (branch_of old.trail) reasons facts rows
    → ((count : ℕ) → refutes count rows (map combination_of combinations) ≡ true) → Finishes s rounds new conflict

-- congruence contradicts the closed list
abbrev pub Contradicts : State → List ℕ → Reason → State → Conflict → Type 0
Contradicts old reasons reason new conflict =
    (s : Sequent) (rounds : ℕ) (facts : List Lit) → Searches s rounds old → IsIncongruent (clauses_of old) old.derivation.nodes (branch_of old.trail) reasons facts reason → Finishes s rounds new conflict

-- a further decision, at a bound
abbrev pub SplitsAt : State → ℕ → ℤ → State → Type 0
SplitsAt old node bound new = (s : Sequent) (rounds : ℕ) → Searches s rounds old → IsBetweenLeaf (clauses_of old) old.derivation.nodes (branch_of old.trail) node bound → Searches s rounds new

-- the connective has this clause, whose nodes stand
abbrev pub HasLine : List Node → ℕ → ℕ → Clause → Type 0
HasLine nodes node number literals = connective_line nodes node number ≡ Some (record { nodes = nodes; clause = literals })

abbrev pub literals_in : GroundClause → Clause
literals_in clause = clause.literals

-- further clauses, each with its line, where they are lines
pub record AreBound (old : State) (added : List GroundClause) (lines : Type 0) (new : State) : Type 0 where
  pub alloc : new.alloc ≡ old.alloc
  pub set : new.set ≡ old.set
  pub trail : new.trail ≡ old.trail
  pub closed : new.closed ≡ old.closed
  pub nodes : new.derivation.nodes ≡ old.derivation.nodes
  pub clauses_are : clauses_of new ≡ clauses_of old ++ added
  pub adds : (s : Sequent) (all : List Clause) → Runs s old.derivation all → AreIn (clauses_of old) old.places.items all → lines
      → Runs s new.derivation (all ++ map literals_in added) × AreIn (clauses_of new) new.places.items (all ++ map literals_in added)

-- one, that is bound to its node
abbrev pub IsBound : State → ℕ → ℕ → Clause → State → Type 0
IsBound old node number literals new = AreBound old (record { literals = literals; bound = Some node } ∷ []) (HasLine old.derivation.nodes node number literals) new

-- all that an equality of numbers means
abbrev pub AreLines : List Node → ℕ → ℕ → ℕ → Type 0
AreLines nodes n up down = HasLine nodes n 0 (no n ∷ yes up ∷ []) × HasLine nodes n 1 (no n ∷ yes down ∷ []) × HasLine nodes n 2 (yes n ∷ no up ∷ no down ∷ [])

abbrev pub IsDefined : State → ℕ → ℕ → ℕ → State → Type 0
IsDefined old equality up down new = AreBound old (equality_clauses equality up down) (AreLines old.derivation.nodes equality up down) new

-- The search goes on, and the number names an equality that may be decided.
pub record HasEquality (s : Sequent) (rounds : ℕ) (state : State) (number : ℕ) : Type 0 where
  pub searches : Searches s rounds state
  pub follows : ComesNext state.set state.derivation.nodes (clauses_of state) (branch_of state.trail) (yes number)
  pub formula : is_formula state.derivation.nodes number ≡ true

abbrev pub MakesEquality : State → ℕ → ℕ → State → ℕ → Type 0
MakesEquality old left right new number = (s : Sequent) (rounds : ℕ) → Searches s rounds old → IsApartLeaf old.set (clauses_of old) old.derivation.nodes (branch_of old.trail) left right → HasEquality s rounds new number

-- a further decision, that two numbers are equal
abbrev pub Equates : State → ℕ → ℕ → State → Type 0
Equates old left right new = (s : Sequent) (rounds : ℕ) → Searches s rounds old → IsApartLeaf old.set (clauses_of old) old.derivation.nodes (branch_of old.trail) left right → Searches s rounds new
