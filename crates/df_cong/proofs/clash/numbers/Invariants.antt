use Rattle.df_classes.proofs.NumberNodes.{AreNumbersBelow}
use Rattle.df_cong.proofs.clash.numbers.Given as goal

abbrev pub invariant-loop-node : goal.invariant-loop-node
invariant-loop-node l = AreNumbersBelow l.nodes l.numbers.items l.node
