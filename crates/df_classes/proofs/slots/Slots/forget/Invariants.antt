use Rattle.df_classes.specs.mirror.Signs.{KeepsSlotsTo}
use Rattle.df_classes.proofs.slots.Slots.forget.Given as goal

abbrev pub invariant-loop-number : goal.invariant-loop-number
invariant-loop-number l = KeepsSlotsTo l.held l.initial.self.slots.items l.self.slots.items
