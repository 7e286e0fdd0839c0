use Rattle.std.proofs.Common.{◌+◌, length}
use Rattle.df_level.proofs.Merging.{IsMerging}
use Rattle.df_level.proofs.entries.weighted_entries.Given as goal

abbrev pub invariant-loop-node : goal.invariant-loop-node
invariant-loop-node l = IsMerging l.f l.left l.g l.right l.left_rest l.right_rest l.sum.items

abbrev pub decreases-loop-node : goal.decreases-loop-node
decreases-loop-node l = length l.left_rest + length l.right_rest
