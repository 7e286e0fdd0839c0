use Rattle.std.proofs.Common.{◌+◌}
use Rattle.df_classes.specs.PartitionView.{state_of, Extends}
use Rattle.df_classes.specs.mirror.Partition.{class_count}
use Rattle.df_classes.proofs.Advancing.{IsClosing, some_wait}
use Rattle.df_classes.proofs.closing.close.Given as goal

abbrev pub invariant-loop-alloc : goal.invariant-loop-alloc
invariant-loop-alloc l = IsClosing l.nodes l.initial.partition l.partition l.initial.waiting.items l.waiting.items × Extends l.initial.partition l.partition

abbrev pub decreases-loop-alloc : goal.decreases-loop-alloc
decreases-loop-alloc l = class_count (state_of l.partition) + some_wait l.waiting.items
