use Rattle.std.proofs.Common.{◌≡◌, drop}
use Rattle.df_rules.specs.Classes.{joined_all}
use Rattle.df_kern.specs.ClassesView.{class_of}
use Rattle.df_kern.proofs.classes.Classes.join_all.Given as goal

abbrev pub invariant-loop-pair : goal.invariant-loop-pair
invariant-loop-pair l = joined_all (class_of l.initial.self) l.pairs ≡ joined_all (class_of l.self) (drop l.pair-index l.pairs)
