use Rattle.std.proofs.Common.{◌≡◌}
use Rattle.df_kern.specs.ClassesView.{class_of}
use Rattle.df_kern.proofs.classes.Classes.least.Given as goal

abbrev pub invariant-loop-lesser : goal.invariant-loop-lesser
invariant-loop-lesser l = (class_of l.self ≡ class_of l.initial.self) × (class_of l.initial.self l.at ≡ class_of l.initial.self l.number)

abbrev pub decreases-loop-lesser : goal.decreases-loop-lesser
decreases-loop-lesser l = l.at
