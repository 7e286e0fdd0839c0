use Rattle.std.proofs.Common.{◌≡◌, length}
use Rattle.df_row.specs.Row.{expanded_below}
use Rattle.df_row.specs.ExpansionView.{expansion_of}
use Rattle.df_row.proofs.expansion.Expansion.expand.Given as goal

abbrev pub invariant-loop-node : goal.invariant-loop-node
invariant-loop-node l = expanded_below l.nodes l.bound (expansion_of l.self) ≡ expanded_below l.nodes (length l.nodes) (expansion_of l.initial.self)

abbrev pub decreases-loop-node : goal.decreases-loop-node
decreases-loop-node l = l.bound
