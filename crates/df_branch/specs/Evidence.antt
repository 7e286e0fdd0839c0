-- Evidence: why a search for a proof stopped.
use Rattle.std.specs.Prelude.{◌≡◌, ◌≤◌, ◌⊎◌, ℕ, true, false, List, [], ◌∷◌, ◌++◌, map, length, take, slice_get, Some}
use Rattle.df_form.specs.declared.log.Lit.{Lit}
use Rattle.df_form.specs.declared.node.Op.TheVariants as ops
use Rattle.df_form.specs.Node.{Node}
use Rattle.df_form.specs.Sorting.{IsTable}
use Rattle.df_form.specs.Clause.{Clause, negation, is_among, are_literals}
use Rattle.df_form.specs.Sequent.{Sequent}
use Rattle.df_form.specs.Log.{Step}
use Rattle.df_row.specs.Row.{Row}
use Rattle.df_row.specs.Linear.{rows_of}
use Rattle.df_rules.specs.Derivation.{begin, after_all}
use Rattle.df_clause.specs.declared.ground.Ground.{Ground}
use Rattle.df_trig.specs.Instances.{IsInstances}
use Rattle.df_clause.specs.Among.{Among}
use Rattle.df_closure.specs.Closure.{GroundClause, after, IsClosed, IsRefuted}
use Rattle.df_closure.specs.Filled.{IsOpenClause, IsFilled}
use Rattle.df_level.specs.Elimination.{AreRefuted}
use Rattle.df_elim.specs.Elimination.{AreAmong}
use Rattle.df_rules.specs.Connective.{Added, connective_line}
use Rattle.df_classes.specs.Equal.{IsContradicted}
use Rattle.df_branch.specs.Splits.{IsSplit}
use Rattle.df_branch.specs.TermPair.{IsTermEquality}

-- a clause that an equality of numbers means, bound to the equality
pub record IsOfEquality (nodes : List Node) (clause : GroundClause) : Type 0 where
  pub node : ℕ
  pub of : Node
  pub there : slice_get nodes node ≡ Some of
  pub equality : of.op ≡ ops.Equal
  pub bound : clause.bound ≡ Some node
  pub number : ℕ
  pub line : connective_line nodes node number ≡ Some (record { nodes = nodes; clause = clause.literals })

-- whatever an equality of numbers means is among the clauses
abbrev pub HaveEqualities : List Node → List GroundClause → Type 0
HaveEqualities nodes clauses =
    (node : ℕ) (of : Node) (number : ℕ) (added : Added) → slice_get nodes node ≡ Some of → of.op ≡ ops.Equal → connective_line nodes node number ≡ Some added
    → (added.nodes ≡ nodes) × Among clauses (record { literals = added.clause; bound = Some node })

-- The ground set of a sequent with one number of rounds of instances, which is at most this, and with the clauses of the
-- equalities of a list's literals; and a table of nodes that begins with those of the ground set: lines may have made more.
pub record IsGroundIn (s : Sequent) (rounds : ℕ) (nodes : List Node) (clauses : List GroundClause) : Type 0 where
  pub set : Ground
  pub own : ℕ
  pub within : own ≤ rounds
  pub is_of : IsInstances s own set
  pub more : List GroundClause
  pub clauses_are : clauses ≡ set.clauses ++ more
  pub of_equalities : (clause : GroundClause) → Among more clause → IsOfEquality nodes clause
  pub equalities : HaveEqualities nodes clauses
  pub table : IsTable nodes
  pub begins : take (length set.nodes) nodes ≡ set.nodes

-- A list of literals is shut: a clause is false beside it, or congruence contradicts its closed list, or the rows of that are refuted.
pub data IsShut (nodes : List Node) (clauses : List GroundClause) (list : List Lit) : Type 0 where
  by_clauses : (numbers : List ℕ) → IsRefuted clauses list numbers → IsShut nodes clauses list
  by_congruence : (reasons : List ℕ) (learned : List Lit) → IsClosed clauses list reasons learned → are_literals nodes (after list learned) ≡ true → IsContradicted nodes (map negation (after list learned)) → IsShut nodes clauses list
  by_rows : (reasons : List ℕ) (learned : List Lit) (rows : List Row) → IsClosed clauses list reasons learned → are_literals nodes (after list learned) ≡ true → rows_of nodes (after list learned) ≡ Some rows → AreRefuted rows → IsShut nodes clauses list

-- no rows among these are refuted
abbrev pub AreUnrefuted : List Row → Type 0
AreUnrefuted rows = (some : List Row) → AreAmong some rows → AreRefuted some → ⊥

-- It is not: its closed list stands, congruence doesn't contradict it, and its rows aren't refuted.
pub record IsUnshut (nodes : List Node) (clauses : List GroundClause) (list : List Lit) (learned : List Lit) : Type 0 where
  pub reasons : List ℕ
  pub closed : IsClosed clauses list reasons learned
  pub formulas : are_literals nodes (after list learned) ≡ true
  pub quiet : IsContradicted nodes (map negation (after list learned)) → ⊥
  pub rows : List Row
  pub rows_are : rows_of nodes (after list learned) ≡ Some rows
  pub unrefuted : AreUnrefuted rows

-- one of two sides of a decision
abbrev pub IsSideOf : (Lit → Type 0) → Lit → Type 0
IsSideOf decides literal = decides literal ⊎ decides (negation literal)

-- A member of an open clause; or, where no clause is open, an equality of terms of the ground set, or that a number is at
-- most a bound between which and the next number its rows put it.
pub data IsDecision (set nodes : List Node) (clauses : List GroundClause) (list learned : List Lit) (literal : Lit) : Type 0 where
  of_clause : (clause : GroundClause) → IsOpenClause clauses (after list learned) clause → is_among clause.literals literal ≡ true → IsDecision set nodes clauses list learned literal
  of_equality : IsFilled clauses (after list learned) → IsTermEquality set nodes literal → IsDecision set nodes clauses list learned literal
  of_split : IsFilled clauses (after list learned) → IsSplit nodes (after list learned) literal → IsDecision set nodes clauses list learned literal

-- A literal, one side of a decision, may follow a list: the list is not shut, and the literal is undecided in its closed list.
pub record MayFollow (set nodes : List Node) (clauses : List GroundClause) (list : List Lit) (literal : Lit) : Type 0 where
  pub learned : List Lit
  pub unshut : IsUnshut nodes clauses list learned
  pub not_true : is_among (after list learned) literal ≡ false
  pub not_false : is_among (after list learned) (negation literal) ≡ false
  pub decision : IsSideOf (IsDecision set nodes clauses list learned) literal

-- Each literal of a branch may follow those before it. So no list of the first ones, but all, is shut.
abbrev pub IsBranchAfter : List Node → List Node → List GroundClause → List Lit → List Lit → Type 0
IsBranchAfter set nodes clauses before [] = Unit {0}
IsBranchAfter set nodes clauses before (literal ∷ others) = MayFollow set nodes clauses before literal × IsBranchAfter set nodes clauses (before ++ literal ∷ []) others

abbrev pub IsBranch : List Node → List Node → List GroundClause → List Lit → Type 0
IsBranch set nodes clauses branch = IsBranchAfter set nodes clauses [] branch

-- one branch holds the negation of a literal of the other
pub record AreIncompatible (one other : List Lit) : Type 0 where
  pub literal : Lit
  pub in_one : is_among one literal ≡ true
  pub in_other : is_among other (negation literal) ≡ true

-- no list of literals that both hold is shut
abbrev pub ShareNothingShut : List Node → List GroundClause → List Lit → List Lit → Type 0
ShareNothingShut nodes clauses one other = (list : List Lit) → ((l : Lit) → is_among list l ≡ true → (is_among one l ≡ true) × (is_among other l ≡ true)) → IsShut nodes clauses list → ⊥

-- a log that has these nodes adds the clause that the branch is not
pub record HasLog (s : Sequent) (nodes : List Node) (branch : List Lit) : Type 0 where
  pub log : List Step
  pub clauses : List Clause
  pub run : after_all s (begin s) log ≡ Some (record { nodes = nodes; clauses = clauses })
  pub number : ℕ
  pub there : slice_get clauses number ≡ Some (map negation branch)

-- a branch that is shut, and refuted by a log
pub record IsClosedBranch (s : Sequent) (set nodes : List Node) (clauses : List GroundClause) (branch : List Lit) : Type 0 where
  pub branch_is : IsBranch set nodes clauses branch
  pub shut : IsShut nodes clauses branch
  pub has_log : HasLog s nodes branch

-- the branch is apart from each of the others
abbrev pub IsApart : List Node → List GroundClause → List Lit → List (List Lit) → Type 0
IsApart nodes clauses branch [] = Unit {0}
IsApart nodes clauses branch (other ∷ others) = AreIncompatible branch other × ShareNothingShut nodes clauses branch other × IsApart nodes clauses branch others

-- closed branches, each apart from those after it
abbrev pub AreClosedBranches : Sequent → List Node → List Node → List GroundClause → List (List Lit) → Type 0
AreClosedBranches s set nodes clauses [] = Unit {0}
AreClosedBranches s set nodes clauses (branch ∷ others) = IsClosedBranch s set nodes clauses branch × IsApart nodes clauses branch others × AreClosedBranches s set nodes clauses others
