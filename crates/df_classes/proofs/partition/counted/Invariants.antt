use Rattle.std.proofs.Common.{◌≡◌}
use Rattle.df_classes.specs.mirror.State.{counted_from}
use Rattle.df_classes.proofs.partition.counted.Given as goal

abbrev pub invariant-loop-number : goal.invariant-loop-number
invariant-loop-number l = l.numbers.items ≡ counted_from 0 l.number
