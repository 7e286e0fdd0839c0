use Rattle.std.proofs.Common.{◌≡◌, ℕ, ◌||◌, drop}
use Rattle.std.specs.Ordering.{nat_cmp}
use Rattle.std.specs.BTreeSet.{contains}
use Rattle.df_rules.specs.CongruenceLine.{has_positive}
use Rattle.df_kern.specs.ClassesView.{class_of}
use Rattle.df_kern.proofs.opposite.positives.Given as goal

abbrev pub invariant-loop-literal : goal.invariant-loop-literal
invariant-loop-literal l =
    let class = class_of l.initial.classes in
    (class_of l.classes ≡ class) × ((c : ℕ) → has_positive class l.clause c ≡ (contains nat_cmp l.set c || has_positive class (drop l.literal-index l.clause) c))
