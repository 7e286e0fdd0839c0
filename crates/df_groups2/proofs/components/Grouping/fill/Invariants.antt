use Rattle.std.proofs.Common.{◌≡◌}
use Rattle.df_groups2.specs.GraphView.{targets_of}
use Rattle.df_groups2.specs.Filling.{IsFilling, filling_work}
use Rattle.df_groups2.proofs.components.Grouping.fill.Given as goal

abbrev pub invariant-loop-vertex : goal.invariant-loop-vertex
invariant-loop-vertex l = record {
  filling : IsFilling (targets_of l.graph) l.root l.fn.self.count l.fn.self.groups.items l.self.groups.items l.pending.items;
  count : l.self.count ≡ l.fn.self.count;
}

abbrev pub decreases-loop-vertex : goal.decreases-loop-vertex
decreases-loop-vertex l = filling_work (targets_of l.graph) l.self.groups.items l.pending.items
