use Rattle.std.proofs.Common.{◌≡◌, ◌≤◌, ◌++◌, drop}
use Rattle.df_vm_store.specs.Compact.{ranks_from}
use Rattle.df_vm_store.proofs.compact.ranks.Given as goal

-- what was found, in front of what is still found
abbrev pub invariant-loop-marked : goal.invariant-loop-marked
invariant-loop-marked l = record {
  found : l.places.items ++ ranks_from l.total (drop l.marked-index l.live) ≡ ranks_from 0 l.live;
  small : l.total ≤ l.marked-index;
}
