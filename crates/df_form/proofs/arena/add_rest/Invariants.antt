use Rattle.std.proofs.Common.{◌≡◌, length, take, ◌-◌}
use Rattle.df_form.proofs.arena.add_rest.Given as goal

abbrev pub invariant-loop-node : goal.invariant-loop-node
invariant-loop-node g l = g.A.NodeTable.nodes l.copy ≡ take (length (g.A.NodeTable.nodes l.copy)) (g.B.NodeTable.nodes l.nodes)

abbrev pub decreases-loop-node : goal.decreases-loop-node
decreases-loop-node g l = length (g.B.NodeTable.nodes l.nodes) - length (g.A.NodeTable.nodes l.copy)
