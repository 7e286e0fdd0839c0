use Rattle.std.proofs.Common.{◌≡◌, [], map, replicate}
use Rattle.df_groups2.proofs.graph.empty_lists.Given as goal

abbrev pub invariant-loop-vertex : goal.invariant-loop-vertex
invariant-loop-vertex l = map (λ list. list.items) l.lists.items ≡ replicate l._vertex []
