use Rattle.std.proofs.Common.{◌≤◌, length, drop}
use Rattle.df_groups2.specs.GraphView.{lists_of, targets_of}
use Rattle.df_groups2.specs.Grouping.{IsGrouping}
use Rattle.df_groups2.proofs.components.components.Given as goal

abbrev pub invariant-loop-root : goal.invariant-loop-root
invariant-loop-root l = record {
  grouping : IsGrouping (targets_of l.graph) (targets_of l.back) (length (lists_of l.graph)) (drop l.root-index l.root-items) l.grouping.count l.grouping.groups.items;
  few : l.grouping.count ≤ l.root-index;
}
