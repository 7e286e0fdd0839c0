use Rattle.std.proofs.Common.{◌≡◌, ℕ, drop}
use Rattle.std.specs.Option.{option_or}
use Rattle.std.specs.Ordering.{nat_cmp}
use Rattle.std.specs.BTreeMap.{get}
use Rattle.df_rules.specs.CongruenceLine.{number_in}
use Rattle.df_classes.specs.mirror.State.{label_of}
use Rattle.df_classes.specs.PartitionView.{state_of}
use Rattle.df_cong.proofs.clash.by_label.Given as goal

abbrev pub invariant-loop-node : goal.invariant-loop-node
invariant-loop-node l =
    let label = label_of (state_of l.partition) in (c : ℕ) → number_in l.nodes label l.numbers c ≡ option_or (number_in l.nodes label (drop l.node-index l.numbers) c) (get nat_cmp l.by_label c)
