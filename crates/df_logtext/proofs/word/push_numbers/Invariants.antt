use Rattle.std.proofs.Common.{map, take}
use Rattle.std.specs.Fmt.{decimal}
use Rattle.std.specs.List.{AllByRecursion}
use Rattle.df_logtext.specs.HasText.{IsIndex}
use Rattle.df_logtext.specs.Joined.{behind}
use Rattle.df_logtext.specs.Writes.{Writes}
use Rattle.df_logtext.proofs.word.push_numbers.Given as goal

abbrev pub invariant-loop-number : goal.invariant-loop-number
invariant-loop-number l = Writes l.initial.text.items l.text.items (behind 32 (map decimal (take l.number-index l.numbers))) (AllByRecursion IsIndex (take l.number-index l.numbers))
