use Rattle.std.proofs.Common.{◌≡◌, ℕ, ◌||◌, drop}
use Rattle.std.specs.Ordering.{nat_cmp}
use Rattle.std.specs.BTreeSet.{contains}
use Rattle.df_rules.specs.CongruenceLine.{has_positive}
use Rattle.df_classes.specs.mirror.State.{label_of}
use Rattle.df_classes.specs.PartitionView.{state_of}
use Rattle.df_cong.proofs.clash.positives.Given as goal

abbrev pub invariant-loop-literal : goal.invariant-loop-literal
invariant-loop-literal l =
    let label = label_of (state_of l.partition) in (c : ℕ) → has_positive label l.literals c ≡ (contains nat_cmp l.labels c || has_positive label (drop l.literal-index l.literals) c)
