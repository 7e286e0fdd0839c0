use Rattle.std.proofs.Common.{take, []}
use Rattle.df_classes.specs.PartitionView.{Extends}
use Rattle.df_classes.specs.mirror.Steps.{Advances}
use Rattle.df_classes.proofs.closing.settle.Given as goal

abbrev pub invariant-loop-node : goal.invariant-loop-node
invariant-loop-node l = Advances l.nodes l.initial.partition l.partition (take l.node-index l.waiting) [] l.later.items × Extends l.initial.partition l.partition
