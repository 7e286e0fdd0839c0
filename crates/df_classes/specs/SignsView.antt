-- The code's signs of classes, and what they are for held literals.
use Rattle.std.specs.Prelude.{◌≡◌, ◌<◌, ◌≤◌, ◌+◌, ◌∷◌, ◌++◌, ◌&&◌, ◌||◌, [], Bool, false, ℕ, ℤ, List, length, map, take, drop, slice_get, Option, None, Some, Contains}
use Rattle.std.specs.List.{list_any}
use Rattle.df_form.specs.declared.log.Lit.{Lit}
use Rattle.df_form.specs.Node.{Node}
use Rattle.df_form.specs.Clause.{no, negation}
use Rattle.df_rules.specs.CongruenceLine.{number_at}
use Rattle.df_classes.specs.declared.partition.Change.{Change}
use Rattle.df_classes.specs.declared.partition.Change.TheVariants as changes
use Rattle.df_classes.specs.declared.partition.Partition.{Partition}
use Rattle.df_classes.specs.declared.holding.Level.{Level}
use Rattle.df_classes.specs.declared.holding.Holding.{Holding}
use Rattle.df_classes.specs.declared.signs.Signs.{Signs}
use Rattle.df_classes.specs.Equal.{IsContradicted}
use Rattle.df_classes.specs.PartitionView.{state_of}
use Rattle.df_classes.specs.mirror.State.{State, label_of, list_at, back}
use Rattle.df_classes.specs.mirror.Clash.{is_denied}
use Rattle.df_classes.specs.mirror.Signs.{is_stamped, HasNumber, Tables, AreWide, Carries, Marks, Covers}

abbrev pub tables_of : Signs → Tables
tables_of s = record { positives = s.positives.since.items; negatives = s.negatives.since.items; slots = s.slots.slots.items }

-- at a level, or now where there is none
abbrev pub state_from : Partition → Option Level → State
state_from p None = state_of p
state_from p (Some level) = back (drop level.changes p.trail.items) (state_of p)

-- where so many literals were held
abbrev pub state_at : Holding → ℕ → State
state_at h count = state_from h.partition (slice_get h.levels.items count)

-- each of some nodes that are numbers is that of its class
abbrev pub PutsNumbers : List Node → State → List ℕ → Tables → Type 0
PutsNumbers nodes s numbers t = (n : ℕ) (k : ℤ) → Contains numbers n → number_at nodes n ≡ Some k → label_of s n < length t.slots → HasNumber nodes t.slots (label_of s n) 0 k

-- each change from one on is carried
abbrev pub CarriesFrom : List Node → State → ℕ → List Change → ℕ → ℕ → Tables → Tables → Type 0
CarriesFrom nodes s held trail from to old new = (place : ℕ) → from ≤ place → place < to → Carries nodes (label_of s) held (slice_get trail place) old new

-- held literals of both signs are in one class
abbrev pub is_torn : Tables → ℕ → ℕ → Bool
is_torn t label held = is_stamped t.positives label held && is_stamped t.negatives label held

-- an equality has sides of one label, and a negative literal is in its class
abbrev pub may_be_denied : List Node → (ℕ → ℕ) → ℕ → Tables → ℕ → Bool
may_be_denied nodes label held t n = is_stamped t.negatives (label n) held && is_denied nodes label (no n)

abbrev pub clashes_at : List Node → List (List ℕ) → (ℕ → ℕ) → ℕ → Tables → ℕ → Bool
clashes_at nodes users label held t n = is_torn t (label n) held || list_any (may_be_denied nodes label held t) (list_at users n)

-- a node that moved does
abbrev pub clashes_by : List Node → List (List ℕ) → (ℕ → ℕ) → ℕ → Tables → Option Change → Bool
clashes_by nodes users label held t (Some (changes.Moved n before)) = clashes_at nodes users label held t n
clashes_by nodes users label held t change = false

-- The literal that came last is marked, and what it moved is carried. Neither clashes.
pub record TakesIn (nodes : List Node) (users : List (List ℕ)) (s : State) (held : ℕ) (literal : Lit) (trail : List Change) (from : ℕ) (old new : Tables) : Type 0 where
  pub marks : label_of s literal.node < length nodes → Marks (label_of s) held literal new
  pub carries : CarriesFrom nodes s held trail from (length trail) old new
  pub not_torn : is_torn new (label_of s literal.node) held ≡ false
  pub not_denied : is_denied nodes (label_of s) literal ≡ false
  pub calm : (place : ℕ) → from ≤ place → place < length trail → clashes_by nodes users (label_of s) held new (slice_get trail place) ≡ false

-- the literal came last, when there were so many changes
pub record Came (holding : Holding) (literal : Lit) (from : ℕ) : Type 0 where
  pub before : List Lit
  pub held_is : holding.held.items ≡ before ++ literal ∷ []
  pub level : Level
  pub at : slice_get holding.levels.items (length before) ≡ Some level
  pub from_is : level.changes ≡ from

-- Each list of the first held literals, as far as they are counted, is covered, and contradicts nothing.
pub record IsCovered (nodes : List Node) (holding : Holding) (signs : Signs) : Type 0 where
  pub wide : AreWide (length nodes) (tables_of signs)
  pub within : signs.covered ≤ length holding.held.items + 1
  pub each : (i : ℕ) → i < signs.covered → Covers nodes (take i holding.held.items) (label_of (state_at holding i)) i (tables_of signs)
  pub quiet : (i : ℕ) → i < signs.covered → IsContradicted nodes (map negation (take i holding.held.items)) → ⊥
