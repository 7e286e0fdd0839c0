use Rattle.std.proofs.Common.{◌≡◌, drop}
use Rattle.std.specs.List.{list_any}
use Rattle.df_classes.specs.mirror.State.{label_of}
use Rattle.df_classes.specs.mirror.Closure.{alike_to}
use Rattle.df_classes.specs.PartitionView.{state_of}
use Rattle.df_classes.proofs.closing.has_alike.Given as goal

abbrev pub invariant-loop-other : goal.invariant-loop-other
invariant-loop-other l =
    let test = alike_to l.nodes (label_of (state_of l.partition)) l.node in list_any test l.others ≡ list_any test (drop l.other-index l.others)
