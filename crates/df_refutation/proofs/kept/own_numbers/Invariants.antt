use Rattle.df_refutation.specs.Needed.{KeepsNumbers}
use Rattle.df_refutation.proofs.kept.own_numbers.Given as goal

abbrev pub invariant-loop-number : goal.invariant-loop-number
invariant-loop-number l = KeepsNumbers l.number l.numbers.items
