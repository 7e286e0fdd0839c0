-- The code's partition as lists, and how it grows.
use Rattle.std.specs.Prelude.{◌≡◌, List, [], ◌∷◌, ◌++◌}
use Rattle.df_form.specs.declared.log.Pair.{Pair}
use Rattle.df_classes.specs.declared.partition.Change.{Change}
use Rattle.df_classes.specs.declared.partition.Partition.{Partition}
use Rattle.df_classes.specs.mirror.State.{State, undone, back}

abbrev pub state_of : Partition → State
state_of p = record { labels = p.labels.items; members = p.members; buckets = p.buckets }

-- Further changes lead from the old to the new, and back; pairs are added.
pub record Extends (old new : Partition) : Type 0 where
  pub made : List Change
  pub trail : new.trail.items ≡ old.trail.items ++ made
  pub goes_back : back made (state_of new) ≡ state_of old
  pub more : List Pair
  pub pairs : new.pairs.items ≡ old.pairs.items ++ more

-- the last change is taken back
pub record UndoesLast (old new : Partition) : Type 0 where
  pub change : Change
  pub trail : old.trail.items ≡ new.trail.items ++ change ∷ []
  pub state : state_of new ≡ undone change (state_of old)
  pub pairs : new.pairs.items ≡ old.pairs.items
