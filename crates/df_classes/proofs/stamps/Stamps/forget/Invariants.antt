use Rattle.df_classes.specs.mirror.Signs.{KeepsStampsTo}
use Rattle.df_classes.proofs.stamps.Stamps.forget.Given as goal

abbrev pub invariant-loop-mark : goal.invariant-loop-mark
invariant-loop-mark l = KeepsStampsTo l.held l.initial.self.since.items l.self.since.items
