use Rattle.std.proofs.Common.{◌≡◌, drop}
use Rattle.df_rules.specs.CongruenceLine.{closed}
use Rattle.df_kern.specs.ClassesView.{class_of}
use Rattle.df_kern.proofs.congruence.close.Given as goal

abbrev pub invariant-loop-pair : goal.invariant-loop-pair
invariant-loop-pair l = closed l.nodes (class_of l.initial.classes) l.pairs ≡ closed l.nodes (class_of l.classes) (drop l.pair-index l.pairs)
