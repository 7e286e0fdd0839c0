-- Steps of the code that closes labels under operations.
use Rattle.std.specs.Prelude.{◌≡◌, ◌<◌, ◌⊎◌, ℕ, List, [], ◌++◌, length}
use Rattle.df_form.specs.declared.log.Pair.{Pair}
use Rattle.df_form.specs.Node.{Node}
use Rattle.df_classes.specs.declared.partition.Partition.{Partition}
use Rattle.df_classes.specs.PartitionView.{state_of}
use Rattle.df_classes.specs.mirror.State.{State}
use Rattle.df_classes.specs.mirror.Partition.{IsPartition, class_count}
use Rattle.df_classes.specs.mirror.Closure.{StandsBut}

-- lists as long as the nodes are many
pub record IsReady (nodes : List Node) (s : State) : Type 0 where
  pub partition : IsPartition (length nodes) s
  pub buckets_long : length s.buckets ≡ length nodes

-- Nodes that waited are looked at, and others wait then. Either there are none, or there are fewer classes.
pub record Advances (nodes : List Node) (old new : Partition) (looked waiting later : List ℕ) : Type 0 where
  pub ready : IsReady nodes (state_of new)
  pub stands : (equalities : List Pair) (rest : List ℕ) → StandsBut nodes equalities old.pairs.items (state_of old) (looked ++ (rest ++ waiting)) → StandsBut nodes equalities new.pairs.items (state_of new) (rest ++ later)
  pub counts : (class_count (state_of new) < class_count (state_of old)) ⊎ ((class_count (state_of new) ≡ class_count (state_of old)) × (later ≡ waiting))

-- After it no node waits.
pub record Closes (nodes : List Node) (old new : Partition) (waiting : List ℕ) : Type 0 where
  pub ready : IsReady nodes (state_of new)
  pub stands : (equalities : List Pair) → StandsBut nodes equalities old.pairs.items (state_of old) waiting → StandsBut nodes equalities new.pairs.items (state_of new) []
