use Rattle.std.proofs.Common.{map, take}
use Rattle.std.specs.List.{AllByRecursion}
use Rattle.df_logtext.specs.HasText.{HasMultiple}
use Rattle.df_logtext.specs.Joined.{behind}
use Rattle.df_logtext.specs.StepText.{multiple_text}
use Rattle.df_logtext.specs.Writes.{Writes}
use Rattle.df_logtext.proofs.word.push_more_multiples.Given as goal

abbrev pub invariant-loop-multiple : goal.invariant-loop-multiple
invariant-loop-multiple l = Writes l.initial.text.items l.text.items (behind 43 (map multiple_text (take l.multiple-index l.multiples))) (AllByRecursion HasMultiple (take l.multiple-index l.multiples))
