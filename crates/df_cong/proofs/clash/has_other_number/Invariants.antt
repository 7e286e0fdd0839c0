use Rattle.std.proofs.Common.{◌≡◌, ℕ, Bool, drop}
use Rattle.std.specs.List.{list_any}
use Rattle.std.specs.Ordering.{nat_cmp}
use Rattle.std.specs.BTreeMap.{get}
use Rattle.df_rules.specs.CongruenceLine.{are_different, number_at}
use Rattle.df_classes.specs.mirror.State.{label_of}
use Rattle.df_classes.specs.PartitionView.{state_of}
use Rattle.df_cong.proofs.clash.has_other_number.Given as goal

abbrev pub invariant-loop-node : goal.invariant-loop-node
invariant-loop-node l =
    let test : ℕ → Bool = λ n. are_different (number_at l.nodes n) (get nat_cmp l.by_label (label_of (state_of l.partition) n)) in list_any test l.numbers ≡ list_any test (drop l.node-index l.numbers)
