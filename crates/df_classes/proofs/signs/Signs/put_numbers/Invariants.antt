use Rattle.std.proofs.Common.{◌≡◌, take}
use Rattle.df_classes.specs.PartitionView.{state_of}
use Rattle.df_classes.specs.SignsView.{tables_of, PutsNumbers}
use Rattle.df_classes.specs.mirror.Signs.{KeepsTables}
use Rattle.df_classes.proofs.signs.Signs.put_numbers.Given as goal

abbrev pub invariant-loop-node : goal.invariant-loop-node
invariant-loop-node l = KeepsTables 0 (tables_of l.initial.self) (tables_of l.self) × PutsNumbers l.nodes (state_of l.partition) (take l.node-index l.numbers) (tables_of l.self) × (l.self.covered ≡ l.initial.self.covered)
