use Rattle.std.proofs.Common.{◌≡◌, not, ◌&&◌, Bool, drop}
use Rattle.std.specs.List.{list_any}
use Rattle.std.specs.Ordering.{nat_cmp}
use Rattle.std.specs.BTreeSet.{contains}
use Rattle.df_form.specs.declared.log.Lit.{Lit}
use Rattle.df_kern.specs.ClassesView.{class_of}
use Rattle.df_kern.proofs.opposite.has_opposite.Given as goal

abbrev pub invariant-loop-literal : goal.invariant-loop-literal
invariant-loop-literal l =
    let test : Lit → Bool = λ x. not x.positive && contains nat_cmp l.positives (class_of l.initial.classes x.node) in
    (class_of l.classes ≡ class_of l.initial.classes) × (list_any test l.clause ≡ list_any test (drop l.literal-index l.clause))
