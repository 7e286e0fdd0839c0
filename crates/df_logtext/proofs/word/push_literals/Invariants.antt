use Rattle.std.proofs.Common.{map, take}
use Rattle.std.specs.List.{AllByRecursion}
use Rattle.df_logtext.specs.HasText.{HasLiteral}
use Rattle.df_logtext.specs.Joined.{behind}
use Rattle.df_logtext.specs.StepText.{literal_word}
use Rattle.df_logtext.specs.Writes.{Writes}
use Rattle.df_logtext.proofs.word.push_literals.Given as goal

abbrev pub invariant-loop-literal : goal.invariant-loop-literal
invariant-loop-literal l = Writes l.initial.text.items l.text.items (behind 32 (map literal_word (take l.literal-index l.literals))) (AllByRecursion HasLiteral (take l.literal-index l.literals))
