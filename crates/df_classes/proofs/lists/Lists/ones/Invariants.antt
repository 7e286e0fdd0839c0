use Rattle.std.proofs.Common.{◌≡◌, map}
use Rattle.df_classes.specs.mirror.State.{ones_from}
use Rattle.df_classes.proofs.lists.Lists.ones.Given as goal

abbrev pub invariant-loop-number : goal.invariant-loop-number
invariant-loop-number l = map (λ list. list.items) l.lists.items ≡ ones_from 0 l.number
