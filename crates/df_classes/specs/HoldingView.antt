-- Held literals, and what leads back to those before.
use Rattle.std.specs.Prelude.{◌≡◌, ◌≤◌, ℕ, List, [], ◌∷◌, ◌++◌, length, map, take, drop, slice_get, Option, None, Some}
use Rattle.std.specs.List.{filter_map}
use Rattle.df_form.specs.declared.log.Lit.{Lit}
use Rattle.df_form.specs.declared.log.Pair.{Pair}
use Rattle.df_form.specs.Node.{Node}
use Rattle.df_form.specs.Clause.{negation}
use Rattle.df_rules.specs.Congruence.{negative_equality, negative_equalities}
use Rattle.df_classes.specs.declared.partition.Partition.{Partition}
use Rattle.df_classes.specs.declared.holding.Level.{Level}
use Rattle.df_classes.specs.declared.holding.Holding.{Holding}
use Rattle.df_classes.specs.PartitionView.{state_of, Extends}
use Rattle.df_classes.specs.mirror.State.{back}
use Rattle.df_classes.specs.mirror.Closure.{StandsBut}
use Rattle.df_classes.specs.mirror.Steps.{IsReady}

-- the sides of the equalities that are held
abbrev pub held_equalities : List Node → List Lit → List Pair
held_equalities nodes held = negative_equalities nodes (map negation held)

-- those of one literal, where it is one
abbrev pub equality_held : List Node → Lit → List Pair
equality_held nodes l = filter_map (negative_equality nodes) (negation l ∷ [])

-- the classes stand for further equalities
pub record Equates (nodes : List Node) (old new : Partition) (added : List Pair) : Type 0 where
  pub ready : IsReady nodes (state_of new)
  pub stands : (equalities : List Pair) → StandsBut nodes equalities old.pairs.items (state_of old) [] → StandsBut nodes (equalities ++ added) new.pairs.items (state_of new) []

-- At a level the classes stood for the literals that were held.
pub record IsLevel (nodes : List Node) (held : List Lit) (p : Partition) (level : Level) : Type 0 where
  pub changes : level.changes ≤ length p.trail.items
  pub pairs : level.pairs ≤ length p.pairs.items
  pub stands : StandsBut nodes (held_equalities nodes held) (take level.pairs p.pairs.items) (back (drop level.changes p.trail.items) (state_of p)) []

pub record IsBelow (first second : Level) : Type 0 where
  pub changes : first.changes ≤ second.changes
  pub pairs : first.pairs ≤ second.pairs

-- each literal has a level, for those before it
pub record AreLevels (nodes : List Node) (held : List Lit) (levels : List Level) (p : Partition) : Type 0 where
  pub as_many : length levels ≡ length held
  pub each : (i : ℕ) (level : Level) → slice_get levels i ≡ Some level → IsLevel nodes (take i held) p level
  pub rising : (i j : ℕ) (first second : Level) → i ≤ j → slice_get levels i ≡ Some first → slice_get levels j ≡ Some second → IsBelow first second

-- the classes stand for all literals
pub record IsHolding (nodes : List Node) (held : List Lit) (levels : List Level) (p : Partition) : Type 0 where
  pub levels_are : AreLevels nodes held levels p
  pub stands : StandsBut nodes (held_equalities nodes held) p.pairs.items (state_of p) []

abbrev pub level_of : Partition → Level
level_of p = record { changes = length p.trail.items; pairs = length p.pairs.items }

-- one more literal, with its level
pub record Pushes (old new : Holding) (literal : Lit) : Type 0 where
  pub held : new.held.items ≡ old.held.items ++ literal ∷ []
  pub levels : new.levels.items ≡ old.levels.items ++ level_of old.partition ∷ []

pub record Retreats (old new : Partition) (level : Level) : Type 0 where
  pub state : state_of new ≡ back (drop level.changes old.trail.items) (state_of old)
  pub trail : new.trail.items ≡ take level.changes old.trail.items
  pub pairs : new.pairs.items ≡ take level.pairs old.pairs.items

-- to a level, where there is one
abbrev pub RetreatsTo : Partition → Partition → Option Level → Type 0
RetreatsTo old new None = new ≡ old
RetreatsTo old new (Some level) = Retreats old new level

-- all literals but so many go
pub record Cuts (old new : Holding) (count : ℕ) : Type 0 where
  pub held : new.held.items ≡ take count old.held.items
  pub levels : new.levels.items ≡ take count old.levels.items
  pub retreats : RetreatsTo old.partition new.partition (slice_get old.levels.items count)

-- a further literal is held
pub record Grows (old new : Holding) (literal : Lit) : Type 0 where
  pub held : new.held.items ≡ old.held.items ++ literal ∷ []
  pub levels : new.levels.items ≡ old.levels.items ++ level_of old.partition ∷ []
  pub extends : Extends old.partition new.partition

-- an error has left what there was
pub record Returns (old new : Holding) : Type 0 where
  pub held : new.held.items ≡ old.held.items
  pub levels : new.levels.items ≡ old.levels.items
  pub trail : new.partition.trail.items ≡ old.partition.trail.items
  pub state : state_of new.partition ≡ state_of old.partition
