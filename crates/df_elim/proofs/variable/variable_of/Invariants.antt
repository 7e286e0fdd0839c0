use Rattle.std.proofs.Common.{drop}
use Rattle.df_elim.specs.Elimination.{low_after}
use Rattle.df_elim.proofs.Variables.{IsPassing}
use Rattle.df_elim.proofs.variable.variable_of.Given as goal

abbrev pub invariant-loop-node : goal.invariant-loop-node
invariant-loop-node l = IsPassing (low_after l.last) l.node-items (drop l.node-index l.node-items)
