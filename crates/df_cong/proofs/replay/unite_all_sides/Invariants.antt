use Rattle.std.proofs.Common.{length, take}
use Rattle.df_classes.specs.HoldingView.{held_equalities}
use Rattle.df_classes.specs.PartitionView.{state_of}
use Rattle.df_cong.specs.mirror.Replay.{Unites}
use Rattle.df_cong.proofs.replay.unite_all_sides.Given as goal

abbrev pub invariant-loop-literal : goal.invariant-loop-literal
invariant-loop-literal l = Unites (length l.nodes) (state_of l.initial.partition) (state_of l.partition) (held_equalities l.nodes (take l.literal-index l.literals))
