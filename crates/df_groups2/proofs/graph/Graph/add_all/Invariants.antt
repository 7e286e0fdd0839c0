use Rattle.std.proofs.Common.{take}
use Rattle.df_groups2.specs.GraphView.{lists_of}
use Rattle.df_groups2.specs.Reversed.{AddsEdges}
use Rattle.df_groups2.proofs.graph.Graph.add_all.Given as goal

abbrev pub invariant-loop-source : goal.invariant-loop-source
invariant-loop-source l = AddsEdges (lists_of l.fn.self) (lists_of l.self) (take l.source-index l.sources) l.target
