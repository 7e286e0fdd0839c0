use Rattle.std.proofs.Common.{◌≡◌}
use Rattle.df_classes.specs.PartitionView.{state_of}
use Rattle.df_classes.specs.SignsView.{tables_of, CarriesFrom}
use Rattle.df_classes.specs.mirror.Signs.{KeepsTables}
use Rattle.df_classes.proofs.signs.Signs.carry_all.Given as goal

abbrev pub invariant-loop-place : goal.invariant-loop-place
invariant-loop-place l =
    KeepsTables l.held (tables_of l.initial.self) (tables_of l.self) × CarriesFrom l.nodes (state_of l.partition) l.held l.partition.trail.items l.from l.place (tables_of l.initial.self) (tables_of l.self) × (l.self.covered ≡ l.initial.self.covered)
