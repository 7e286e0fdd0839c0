use Rattle.std.proofs.Common.{take}
use Rattle.df_classes.specs.PartitionView.{state_of}
use Rattle.df_cong.specs.mirror.Replay.{UnitesAlike}
use Rattle.df_cong.proofs.replay.unite_all_alike.Given as goal

abbrev pub invariant-loop-pair : goal.invariant-loop-pair
invariant-loop-pair l = UnitesAlike l.nodes (state_of l.initial.partition) (state_of l.partition) (take l.pair-index l.pairs)
