use Rattle.std.proofs.Common.{◌≡◌, drop}
use Rattle.df_classes.specs.mirror.State.{label_of}
use Rattle.df_classes.specs.mirror.Closure.{mixed}
use Rattle.df_classes.specs.PartitionView.{state_of}
use Rattle.df_classes.proofs.closing.mix.Given as goal

abbrev pub invariant-loop-part : goal.invariant-loop-part
invariant-loop-part l =
    let label = label_of (state_of l.partition) in mixed label l.seed l.parts ≡ mixed label l.so_far (drop l.part-index l.parts)
