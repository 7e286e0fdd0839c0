use Rattle.df_groups.specs.GraphView.{lists_of}
use Rattle.df_groups.proofs.Reversing.{IsReversedBelow}
use Rattle.df_groups.proofs.graph.Graph.reversed.Given as goal

abbrev pub invariant-loop-vertex : goal.invariant-loop-vertex
invariant-loop-vertex l = IsReversedBelow (lists_of l.self) (lists_of l.back) l.vertex
