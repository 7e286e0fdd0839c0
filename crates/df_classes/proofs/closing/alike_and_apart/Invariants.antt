use Rattle.std.proofs.Common.{◌≡◌, drop, find}
use Rattle.df_classes.specs.mirror.State.{label_of}
use Rattle.df_classes.specs.mirror.Closure.{apart_from}
use Rattle.df_classes.specs.PartitionView.{state_of}
use Rattle.df_classes.proofs.closing.alike_and_apart.Given as goal

abbrev pub invariant-loop-other : goal.invariant-loop-other
invariant-loop-other l =
    let test = apart_from l.nodes (label_of (state_of l.partition)) l.node in find test l.others ≡ find test (drop l.other-index l.others)
