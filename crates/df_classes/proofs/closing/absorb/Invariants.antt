use Rattle.df_classes.proofs.Absorbing.{IsAbsorbing}
use Rattle.df_classes.proofs.closing.absorb.Given as goal

abbrev pub invariant-loop-node : goal.invariant-loop-node
invariant-loop-node l = IsAbsorbing l.users l.winner l.node-items l.initial.partition l.partition l.initial.waiting.items l.waiting.items l.node-index
