use Rattle.df_cong.specs.mirror.Replay.{AreFrom}
use Rattle.df_cong.proofs.explaining.marked_literals.Given as goal

abbrev pub invariant-loop-place : goal.invariant-loop-place
invariant-loop-place l = AreFrom l.literals l.kept.items
