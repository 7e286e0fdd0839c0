use Rattle.std.proofs.Common.{◌≡◌, drop}
use Rattle.df_rules.specs.CongruenceLine.{has_equality}
use Rattle.df_kern.specs.ClassesView.{class_of}
use Rattle.df_kern.proofs.equality.has_equality.Given as goal

abbrev pub invariant-loop-literal : goal.invariant-loop-literal
invariant-loop-literal l =
    let class = class_of l.initial.classes in
    (class_of l.classes ≡ class) × (has_equality l.nodes class l.clause ≡ has_equality l.nodes class (drop l.literal-index l.clause))
