use Rattle.std.proofs.Common.{◌≡◌, drop}
use Rattle.df_classes.specs.mirror.State.{label_of}
use Rattle.df_classes.specs.mirror.Clash.{has_denied}
use Rattle.df_classes.specs.PartitionView.{state_of}
use Rattle.df_cong.proofs.clash.has_denied.Given as goal

abbrev pub invariant-loop-literal : goal.invariant-loop-literal
invariant-loop-literal l =
    let label = label_of (state_of l.partition) in has_denied l.nodes label l.literals ≡ has_denied l.nodes label (drop l.literal-index l.literals)
