use Rattle.std.proofs.Common.{◌≡◌, drop}
use Rattle.std.specs.Cmp.Lexicographic.{pointwise}
use Rattle.df_rules.specs.Classes.{is_together}
use Rattle.df_kern.specs.ClassesView.{class_of}
use Rattle.df_kern.proofs.congruence.are_together.Given as goal

abbrev pub invariant-loop-place : goal.invariant-loop-place
invariant-loop-place l =
    let class = class_of l.initial.classes in
    (class_of l.classes ≡ class) × (pointwise (is_together class) l.first l.second ≡ pointwise (is_together class) (drop l.place l.first) (drop l.place l.second))
