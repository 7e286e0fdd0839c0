-- A search so far.
use Rattle.std.specs.Prelude.{◌≡◌, ◌⊎◌, ℕ, suc, ◌+◌, ◌≤◌, ◌<◌, false, List, [], ◌∷◌, ◌++◌, map, length, Option, None, Some, Vec}
use Rattle.std.specs.declared.alloc.Global.{Global}
use Rattle.df_form.specs.declared.log.Lit.{Lit}
use Rattle.df_form.specs.Node.{Node}
use Rattle.df_form.specs.Clause.{Clause, negation, is_among}
use Rattle.df_form.specs.Sequent.{Sequent, IsSequent}
use Rattle.df_form.specs.Log.{step_of}
use Rattle.df_rules.specs.Derivation.{Derives}
use Rattle.df_clause.specs.declared.ground.Ground.{Ground}
use Rattle.df_trig.specs.Instances.{IsInstances}
use Rattle.df_clause.specs.Among.{Among}
use Rattle.df_closure.specs.Closure.{GroundClause, ground_of}
use Rattle.df_logbuild.specs.Runs.{Runs}
use Rattle.df_trail.specs.declared.decision.Conflict.{Conflict}
use Rattle.df_trail.specs.declared.decision.Decision.{Decision}
use Rattle.df_trail.specs.declared.trail.Trail.{Trail}
use Rattle.df_trail.specs.Trail.{branch_of, literals_of, IsTrail, IsClosed, IsFresh}
use Rattle.df_branch.specs.declared.leaf.Leaf.{Leaf}
use Rattle.df_branch.specs.Evidence.{IsOfEquality, MayFollow, IsBranch, IsShut, IsClosedBranch, AreIncompatible, ShareNothingShut}
use Rattle.df_branch.specs.Next.{ComesNext}
use Rattle.df_branch.specs.Place.{IsPlace}
use Rattle.df_branch.specs.Leaf.{IsWideLeaf, IsManyLeaf, TellsLeaf}
use Rattle.df_search.specs.Places.{AreIn}
use Rattle.df_search.specs.declared.searching.State.{State}
use Rattle.df_search.specs.declared.searching.End.{End}
use Rattle.df_search.specs.declared.searching.End.TheVariants as ends
use Rattle.df_search.specs.declared.searching.Turn.{Turn}
use Rattle.df_search.specs.declared.searching.Turn.TheVariants as turns
use Rattle.df_search.specs.Found.{HasModel, AreSpent, IsTooWide, HasManyRows}

abbrev pub clauses_of : State → List GroundClause
clauses_of state = map ground_of state.clauses.items

abbrev pub branches_of : State → List (List Lit)
branches_of state = map (λ (branch : Vec Lit Global). branch.items) state.closed.items

-- A branch leaves decisions at one whose other side is closed: it goes on with that other side.
pub record Leaves (decisions : List Decision) (branch : List Lit) : Type 0 where
  pub kept : List Decision
  pub decision : Decision
  pub rest : List Decision
  pub tail : List Lit
  pub is : decisions ≡ kept ++ decision ∷ rest
  pub side_closed : decision.closed ≡ None → ⊥
  pub branch_is : branch ≡ literals_of kept ++ negation decision.literal ∷ tail

abbrev pub AllLeave : List Decision → List (List Lit) → Type 0
AllLeave decisions [] = Unit {0}
AllLeave decisions (branch ∷ others) = Leaves decisions branch × AllLeave decisions others

-- or it is the branch of the decisions
abbrev pub AllLeaveOr : List Decision → List (List Lit) → Type 0
AllLeaveOr decisions [] = Unit {0}
AllLeaveOr decisions (branch ∷ others) = (Leaves decisions branch ⊎ (branch ≡ literals_of decisions)) × AllLeaveOr decisions others

-- what both branches hold is not shut
abbrev pub AreApart : List Lit → List Lit → Type 0
AreApart branch other = (set nodes : List Node) (clauses : List GroundClause) → IsBranch set nodes clauses branch → IsBranch set nodes clauses other → ShareNothingShut nodes clauses branch other

-- the one branch has a last literal that the other lacks
pub record Lacks (branch other : List Lit) : Type 0 where
  pub first : List Lit
  pub last : Lit
  pub is : branch ≡ first ++ last ∷ []
  pub lacks : is_among other last ≡ false

abbrev pub AllApart : List Lit → List (List Lit) → Type 0
AllApart branch [] = Unit {0}
AllApart branch (other ∷ others) = AreApart branch other × AllApart branch others

-- the branch is incompatible with each of the others, and apart from it
abbrev pub AllDiffer : List Lit → List (List Lit) → Type 0
AllDiffer branch [] = Unit {0}
AllDiffer branch (other ∷ others) = AreIncompatible branch other × AreApart branch other × AllDiffer branch others

-- closed branches of which each differs from those after it
abbrev pub AreCounted : Sequent → List Node → List Node → List GroundClause → List (List Lit) → Type 0
AreCounted s set nodes clauses [] = Unit {0}
AreCounted s set nodes clauses (branch ∷ others) = IsClosedBranch s set nodes clauses branch × AllDiffer branch others × AreCounted s set nodes clauses others

-- Each decision comes next to those before it. They are not shut where its other side is closed.
abbrev pub IsPathAfter : List Node → List Node → List GroundClause → List Lit → List Decision → Type 0
IsPathAfter set nodes clauses before [] = Unit {0}
IsPathAfter set nodes clauses before (d ∷ others) =
    ComesNext set nodes clauses before d.literal × ((d.closed ≡ None → ⊥) → MayFollow set nodes clauses before d.literal) × IsPathAfter set nodes clauses (before ++ d.literal ∷ []) others

abbrev pub IsPath : List Node → List Node → List GroundClause → Trail → Type 0
IsPath set nodes clauses t = IsPathAfter set nodes clauses [] t.decisions.items

-- The nodes and clauses are those of the ground set of the sequent with so many rounds of instances, and of equalities that
-- were decided, and the trail's decisions come one after another.
pub record IsStanding (s : Sequent) (rounds : ℕ) (all : List Clause) (state : State) : Type 0 where
  pub ground_set : Ground
  pub is_of : IsInstances s rounds ground_set
  pub set_is : state.set ≡ ground_set.nodes
  pub more : List GroundClause
  pub clauses_are : clauses_of state ≡ ground_set.clauses ++ more
  pub of_equalities : (clause : GroundClause) → Among more clause → IsOfEquality state.derivation.nodes clause
  pub lines : AreIn (clauses_of state) state.places.items all
  pub place : IsPlace state.set (clauses_of state) state.derivation.nodes (branch_of state.trail)
  pub trail : IsTrail all state.trail
  pub path : IsPath state.set state.derivation.nodes (clauses_of state) state.trail
  pub counted : AreCounted s state.set state.derivation.nodes (clauses_of state) (branches_of state)

-- what the lines of the log so far add, and the closed branches leave the trail
pub record IsSearching (s : Sequent) (rounds : ℕ) (all : List Clause) (state : State) : Type 0 where
  pub standing : IsStanding s rounds all state
  pub runs : Runs s state.derivation all
  pub leave : AllLeave state.trail.decisions.items (branches_of state)

-- the trail's branch is shut, and the log's last clause says that literals of it are not all true
pub record IsFinished (s : Sequent) (rounds : ℕ) (front : List Clause) (state : State) (conflict : Conflict) : Type 0 where
  pub standing : IsStanding s rounds front state
  pub closed : IsClosed s state.derivation state.trail front conflict
  pub shut : IsShut state.derivation.nodes (clauses_of state) (branch_of state.trail)
  pub leave : AllLeave state.trail.decisions.items (branches_of state)

-- and no list of its first literals, but all, is shut
abbrev pub HasBranch : State → Type 0
HasBranch state = IsBranch state.set state.derivation.nodes (clauses_of state) (branch_of state.trail)

-- and the branch may be among the closed ones
pub record IsCounted (s : Sequent) (rounds : ℕ) (front : List Clause) (state : State) (conflict : Conflict) : Type 0 where
  pub standing : IsStanding s rounds front state
  pub closed : IsClosed s state.derivation state.trail front conflict
  pub branch : HasBranch state
  pub leave : AllLeaveOr state.trail.decisions.items (branches_of state)

pub record Searches (s : Sequent) (rounds : ℕ) (state : State) : Type 0 where
  pub all : List Clause
  pub is : IsSearching s rounds all state

pub record Finishes (s : Sequent) (rounds : ℕ) (state : State) (conflict : Conflict) : Type 0 where
  pub front : List Clause
  pub is : IsFinished s rounds front state conflict

abbrev pub Counts : State → State → Type 0
Counts old new = (s : Sequent) (rounds : ℕ) (front : List Clause) (conflict : Conflict) → IsFinished s rounds front old conflict → HasBranch old → IsCounted s rounds front new conflict

-- the branch ends so
abbrev pub EndsAt : Sequent → ℕ → State → End → Type 0
EndsAt s rounds state (ends.Closed conflict) = Finishes s rounds state conflict
EndsAt s rounds state ends.Wide = Searches s rounds state × IsWideLeaf state.set (clauses_of state) state.derivation.nodes (branch_of state.trail)
EndsAt s rounds state (ends.Many count) = Searches s rounds state × IsManyLeaf (clauses_of state) state.derivation.nodes (branch_of state.trail) count

-- a place of a search, with a number of the log for each clause
pub record IsPlaced (state : State) : Type 0 where
  pub place : IsPlace state.set (clauses_of state) state.derivation.nodes (branch_of state.trail)
  pub places : length state.places.items ≡ length state.clauses.items

-- the same nodes, clauses, places and decisions, whatever the lines of the log are
pub record IsSame (old new : State) : Type 0 where
  pub set : new.set ≡ old.set
  pub clauses : new.clauses ≡ old.clauses
  pub places : new.places ≡ old.places
  pub nodes : new.derivation.nodes ≡ old.derivation.nodes
  pub trail : new.trail ≡ old.trail

-- However the old branch ends, the new one ends so; or it ends as the old one did, and no list of its first literals, but
-- all, is shut.
abbrev pub Shortens : State → State → Option End → Type 0
Shortens old new (Some shorter) = (s : Sequent) (rounds : ℕ) (ending : End) → EndsAt s rounds old ending → EndsAt s rounds new shorter
Shortens old new None = (s : Sequent) (rounds : ℕ) (ending : End) → EndsAt s rounds old ending → EndsAt s rounds new ending × HasBranch new

-- the literals before the last decision, whose other side is open
abbrev pub HasBefore : State → List Lit → Type 0
HasBefore state before = (fresh : IsFresh state.trail) × (before ≡ literals_of fresh.kept)

-- a shorter end has fewer decisions
abbrev pub Lessens : State → State → Option End → Type 0
Lessens old new (Some shorter) = length new.trail.decisions.items < length old.trail.decisions.items
Lessens old new None = Unit {0}

-- an end that no line has told yet counts as a line
abbrev pub owed : End → ℕ
owed (ends.Closed conflict) = 0
owed ends.Wide = 1
owed (ends.Many count) = 1

abbrev pub lines_at : State → End → ℕ
lines_at state ending = length state.derivation.lines.items + owed ending

-- the log has grown by a shorter end
abbrev pub Grown : State → State → Option End → Type 0
Grown old new (Some shorter) = suc (length old.derivation.lines.items) ≤ lines_at new shorter
Grown old new None = new.derivation ≡ old.derivation

-- what a turn of a search comes to
abbrev pub Comes : Sequent → ℕ → ℕ → State → Turn → Type 0
Comes s steps rounds state turns.On = Searches s rounds state × (length state.closed.items < steps)
Comes s steps rounds state turns.Proved = Derives s (map step_of state.derivation.lines.items)
Comes s steps rounds state turns.Spent = AreSpent s steps rounds (branches_of state)
Comes s steps rounds state (turns.Modelled table) = IsSequent s → HasModel s rounds table
Comes s steps rounds state turns.Wide = IsTooWide s rounds (branches_of state) (branch_of state.trail)
Comes s steps rounds state (turns.Many count) = HasManyRows s rounds (branches_of state) (branch_of state.trail) count

abbrev pub Closes : State → Conflict → ℕ → State → Turn → Type 0
Closes old conflict steps new turn = (s : Sequent) (rounds : ℕ) → Finishes s rounds old conflict → HasBranch old → length old.closed.items < steps → Comes s steps rounds new turn

-- what comes of an end of which no first literals are shut
abbrev pub Ends : State → End → ℕ → State → Turn → Type 0
Ends old ending steps new turn = (s : Sequent) (rounds : ℕ) → EndsAt s rounds old ending → HasBranch old → length old.closed.items < steps → Comes s steps rounds new turn

-- what comes of an end
abbrev pub Settles : State → End → ℕ → State → Turn → Type 0
Settles old ending steps new turn = (s : Sequent) (rounds : ℕ) → EndsAt s rounds old ending → length old.closed.items < steps → Comes s steps rounds new turn

abbrev pub TurnsTo : State → ℕ → State → Turn → Type 0
TurnsTo old steps new turn = (s : Sequent) (rounds : ℕ) → Searches s rounds old → length old.closed.items < steps → Comes s steps rounds new turn

abbrev pub Tells : State → Leaf → Type 0
Tells state leaf = TellsLeaf state.set (clauses_of state) state.derivation.nodes (branch_of state.trail) leaf

-- the log is longer; or it is as long, or longer, and so is the trail
abbrev pub Grows : State → State → Type 0
Grows old new =
    (length old.derivation.lines.items < length new.derivation.lines.items)
    ⊎ ((length old.derivation.lines.items ≤ length new.derivation.lines.items) × (length new.trail.decisions.items ≡ suc (length old.trail.decisions.items)))

-- a search that goes on has a log of at least so many lines
abbrev pub GoesFrom : ℕ → State → Turn → Type 0
GoesFrom count new turns.On = count ≤ length new.derivation.lines.items
GoesFrom count new turns.Proved = Unit {0}
GoesFrom count new turns.Spent = Unit {0}
GoesFrom count new (turns.Modelled table) = Unit {0}
GoesFrom count new turns.Wide = Unit {0}
GoesFrom count new (turns.Many rows) = Unit {0}

abbrev pub GoesOn : State → State → Turn → Type 0
GoesOn old new turns.On = Grows old new
GoesOn old new turns.Proved = Unit {0}
GoesOn old new turns.Spent = Unit {0}
GoesOn old new (turns.Modelled table) = Unit {0}
GoesOn old new turns.Wide = Unit {0}
GoesOn old new (turns.Many count) = Unit {0}
