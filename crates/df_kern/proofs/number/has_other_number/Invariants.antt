use Rattle.std.proofs.Common.{◌≡◌, ℕ, Bool, drop}
use Rattle.std.specs.List.{list_any}
use Rattle.std.specs.Ordering.{nat_cmp}
use Rattle.std.specs.BTreeMap.{get}
use Rattle.df_rules.specs.CongruenceLine.{are_different, number_at}
use Rattle.df_kern.specs.ClassesView.{class_of}
use Rattle.df_kern.proofs.number.has_other_number.Given as goal

abbrev pub invariant-loop-member : goal.invariant-loop-member
invariant-loop-member l =
    let test : ℕ → Bool = λ n. are_different (number_at l.nodes n) (get nat_cmp l.numbers (class_of l.initial.classes n)) in
    (class_of l.classes ≡ class_of l.initial.classes) × (list_any test l.members ≡ list_any test (drop l.member-index l.members))
