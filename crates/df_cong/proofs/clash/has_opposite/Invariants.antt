use Rattle.std.proofs.Common.{◌≡◌, not, ◌&&◌, Bool, drop}
use Rattle.std.specs.List.{list_any}
use Rattle.std.specs.Ordering.{nat_cmp}
use Rattle.std.specs.BTreeSet.{contains}
use Rattle.df_form.specs.declared.log.Lit.{Lit}
use Rattle.df_classes.specs.mirror.State.{label_of}
use Rattle.df_classes.specs.PartitionView.{state_of}
use Rattle.df_cong.proofs.clash.has_opposite.Given as goal

abbrev pub invariant-loop-literal : goal.invariant-loop-literal
invariant-loop-literal l =
    let test : Lit → Bool = λ x. not x.positive && contains nat_cmp l.positives (label_of (state_of l.partition) x.node) in list_any test l.literals ≡ list_any test (drop l.literal-index l.literals)
