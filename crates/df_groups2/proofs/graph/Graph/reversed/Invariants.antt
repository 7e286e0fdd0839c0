use Rattle.df_groups2.specs.GraphView.{lists_of}
use Rattle.df_groups2.proofs.Reversing.{IsReversedBelow}
use Rattle.df_groups2.proofs.graph.Graph.reversed.Given as goal

abbrev pub invariant-loop-vertex : goal.invariant-loop-vertex
invariant-loop-vertex l = IsReversedBelow (lists_of l.self) (lists_of l.back) l.vertex
