-- Trails of decisions, and the clauses that close their other sides.
use Rattle.std.specs.Prelude.{◌≡◌, Bool, true, false, not, List, [], ◌∷◌, ◌++◌, map, filter, length, slice_get, Option, None, Some, Vec}
use Rattle.std.specs.declared.alloc.Global.{Global}
use Rattle.df_form.specs.declared.log.Lit.{Lit}
use Rattle.df_form.specs.Sequent.{Sequent}
use Rattle.df_form.specs.Clause.{Clause, negation, same_literal, is_among, are_literals}
use Rattle.df_logbuild.specs.declared.derivation.Derivation.{Derivation}
use Rattle.df_logbuild.specs.Runs.{Runs}
use Rattle.df_trail.specs.declared.decision.Conflict.{Conflict}
use Rattle.df_trail.specs.declared.decision.Decision.{Decision}
use Rattle.df_trail.specs.declared.trail.Trail.{Trail}
use Rattle.df_trail.specs.declared.trail.Retreat.{Retreat}
use Rattle.df_trail.specs.declared.trail.Retreat.TheVariants as retreats

abbrev pub literal_of : Decision → Lit
literal_of d = d.literal

-- the literals of decisions, in their order
abbrev pub literals_of : List Decision → List Lit
literals_of decisions = map literal_of decisions

abbrev pub branch_of : Trail → List Lit
branch_of t = literals_of t.decisions.items

-- a decision whose other side is open
abbrev pub decided : Lit → Decision
decided literal = record { literal = literal; closed = None }

-- the other side of a literal that the conflict closes
abbrev pub turned : Lit → Conflict → Decision
turned literal conflict = record { literal = negation literal; closed = Some conflict }

-- neither the literal nor its negation is among those before
pub record IsUndecided (before : List Lit) (literal : Lit) : Type 0 where
  pub not_true : is_among before literal ≡ false
  pub not_false : is_among before (negation literal) ≡ false

-- the list has all these literals
pub record HasAll (list some : List Lit) : Type 0 where
  pub has : (l : Lit) → is_among some l ≡ true → is_among list l ≡ true

-- what the conflict needs is among the literals, and its clause says that this is not all true
pub record IsConflict (clauses : List Clause) (list : List Lit) (conflict : Conflict) : Type 0 where
  pub there : slice_get clauses conflict.number ≡ Some (map negation conflict.needed.items)
  pub held : HasAll list conflict.needed.items

-- where the other side came first, a conflict needs it, and else literals before
abbrev pub IsClosedBy : List Clause → List Lit → Lit → Option Conflict → Type 0
IsClosedBy clauses before literal None = Unit {0}
IsClosedBy clauses before literal (Some conflict) = IsConflict clauses (before ++ negation literal ∷ []) conflict × (is_among conflict.needed.items (negation literal) ≡ true)

-- each decision was open, and so it is for those after it
abbrev pub AreDecided : List Clause → List Lit → List Decision → Type 0
AreDecided clauses before [] = Unit {0}
AreDecided clauses before (d ∷ others) = IsUndecided before d.literal × IsClosedBy clauses before d.literal d.closed × AreDecided clauses (before ++ d.literal ∷ []) others

-- what keeps a trail beside the clauses of a log
abbrev pub IsTrail : List Clause → Trail → Type 0
IsTrail clauses t = AreDecided clauses [] t.decisions.items

-- The log's last clause says that literals of the branch are not all true.
pub record IsClosed (s : Sequent) (d : Derivation) (t : Trail) (front : List Clause) (conflict : Conflict) : Type 0 where
  pub runs : Runs s d (front ++ map negation conflict.needed.items ∷ [])
  pub number_is : conflict.number ≡ length front
  pub held : HasAll (branch_of t) conflict.needed.items
  pub trail : IsTrail front t
  pub formulas : are_literals d.nodes (branch_of t) ≡ true

-- the log runs on with further clauses, and the trail has a branch that is not closed yet
pub record HasTurned (s : Sequent) (d : Derivation) (t : Trail) (front : List Clause) : Type 0 where
  pub more : List Clause
  pub runs : Runs s d (front ++ more)
  pub trail : IsTrail (front ++ more) t
  pub formulas : are_literals d.nodes (branch_of t) ≡ true

-- the log ends with the empty clause
pub record HasEnded (s : Sequent) (d : Derivation) (front : List Clause) : Type 0 where
  pub more : List Clause
  pub runs : Runs s d ((front ++ more) ++ [] ∷ [])

abbrev pub Retreats : Sequent → Derivation → Trail → List Clause → Retreat → Type 0
Retreats s d t front retreats.Turned = HasTurned s d t front
Retreats s d t front retreats.Ended = HasEnded s d front

-- whatever sequent the log is of
abbrev pub RetreatsFrom : Derivation → Trail → Conflict → Derivation → Trail → Retreat → Type 0
RetreatsFrom old_log old conflict new_log new retreat = (s : Sequent) (front : List Clause) → IsClosed s old_log old front conflict → Retreats s new_log new front retreat

-- the literals but the one
abbrev pub others_of : Lit → List Lit → List Lit
others_of literal literals = filter (λ l. not (same_literal l literal)) literals

-- Beside a branch a literal is undecided. A conflict needs its negation, and else literals of the branch; another one needs
-- literals of the branch, and it may need the literal.
pub record AreSides (all : List Clause) (branch : List Lit) (literal : Lit) (other conflict : Conflict) : Type 0 where
  pub undecided : IsUndecided branch literal
  pub first : IsConflict all (branch ++ negation literal ∷ []) other
  pub needs : is_among other.needed.items (negation literal) ≡ true
  pub second : IsConflict all (branch ++ literal ∷ []) conflict

-- the log then says that literals of the branch are not all true
abbrev pub JoinsSides : Lit → Conflict → Conflict → Derivation → Derivation → Conflict → Type 0
JoinsSides literal other conflict old new joined =
    (s : Sequent) (all : List Clause) (branch : List Lit) → Runs s old all → are_literals old.nodes branch ≡ true → AreSides all branch literal other conflict
    → Runs s new (all ++ map negation joined.needed.items ∷ []) × HasAll branch joined.needed.items

-- Decisions from the end on are taken back, and the one before them is turned, whose other side was open.
pub record IsTurned (old new : Trail) : Type 0 where
  pub kept : List Decision
  pub decision : Decision
  pub taken : List Decision
  pub conflict : Conflict
  pub old_is : old.decisions.items ≡ kept ++ decision ∷ taken
  pub side_open : decision.closed ≡ None
  pub new_is : new.decisions.items ≡ kept ++ turned decision.literal conflict ∷ []

abbrev pub Turns : Trail → Trail → Retreat → Type 0
Turns old new retreats.Turned = IsTurned old new
Turns old new retreats.Ended = Unit {0}

-- there is no decision, or the other side of the last one is closed
pub data IsKept (t : Trail) : Type 0 where
  none_there : t.decisions.items ≡ [] → IsKept t
  last_turned : (kept : List Decision) (last : Decision) → t.decisions.items ≡ kept ++ last ∷ [] → (last.closed ≡ None → ⊥) → IsKept t

-- the other side of the last decision is open
pub record IsFresh (t : Trail) : Type 0 where
  pub kept : List Decision
  pub literal : Lit
  pub is : t.decisions.items ≡ kept ++ decided literal ∷ []

abbrev pub TellsFresh : Trail → Bool → Type 0
TellsFresh t true = IsFresh t
TellsFresh t false = IsKept t

-- the literals before the last decision, where its other side is open
abbrev pub TellsBefore : Trail → Option (Vec Lit Global) → Type 0
TellsBefore t (Some before) = (fresh : IsFresh t) × (before.items ≡ literals_of fresh.kept)
TellsBefore t None = IsKept t
