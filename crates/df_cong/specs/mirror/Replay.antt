-- Classes of pairs that are joined in their order, as a line of congruence has them.
use Rattle.std.specs.Prelude.{◌<◌, ℕ, List, ◌++◌, length, Contains}
use Rattle.df_form.specs.declared.log.Lit.{Lit}
use Rattle.df_form.specs.declared.log.Pair.{Pair}
use Rattle.df_form.specs.Node.{Node}
use Rattle.df_rules.specs.Classes.{InOneClass}
use Rattle.df_rules.specs.Congruence.{AreCongruent}
use Rattle.df_classes.specs.mirror.State.{State, label_of}
use Rattle.df_classes.specs.mirror.Partition.{IsPartition}

-- all of the second literals are among the first
abbrev pub AreFrom : List Lit → List Lit → Type 0
AreFrom many few = (l : Lit) → Contains few l → Contains many l

-- each node is in one class of these pairs with its label
abbrev pub AreTogether : List Pair → State → Type 0
AreTogether pairs s = (n : ℕ) → InOneClass pairs n (label_of s n)

-- two nodes
pub record CanUnite (pair : Pair) (s : State) : Type 0 where
  pub partition : IsPartition (length s.labels) s
  pub left_in : pair.left < length s.labels
  pub right_in : pair.right < length s.labels

-- the labels are those of some more pairs
pub record Unites (count : ℕ) (old new : State) (added : List Pair) : Type 0 where
  pub partition : IsPartition count new
  pub together : (pairs : List Pair) → AreTogether pairs old → AreTogether (pairs ++ added) new

-- each of which is congruent by those before it
pub record UnitesAlike (nodes : List Node) (old new : State) (added : List Pair) : Type 0 where
  pub unites : Unites (length nodes) old new added
  pub congruent : (pairs : List Pair) → AreTogether pairs old → AreCongruent nodes pairs added
