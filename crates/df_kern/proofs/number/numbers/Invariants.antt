use Rattle.std.proofs.Common.{◌≡◌, ℕ, drop}
use Rattle.std.specs.Option.{option_or}
use Rattle.std.specs.Ordering.{nat_cmp}
use Rattle.std.specs.BTreeMap.{get}
use Rattle.df_rules.specs.CongruenceLine.{number_in}
use Rattle.df_kern.specs.ClassesView.{class_of}
use Rattle.df_kern.proofs.number.numbers.Given as goal

abbrev pub invariant-loop-member : goal.invariant-loop-member
invariant-loop-member l =
    let class = class_of l.initial.classes in
    (class_of l.classes ≡ class) × ((c : ℕ) → number_in l.nodes class l.members c ≡ option_or (number_in l.nodes class (drop l.member-index l.members) c) (get nat_cmp l.numbers c))
