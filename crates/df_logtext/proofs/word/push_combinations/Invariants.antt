use Rattle.std.proofs.Common.{map, take}
use Rattle.df_logtext.specs.HasText.{HasCombination}
use Rattle.df_logtext.specs.Joined.{behind}
use Rattle.std.specs.List.{flat_map, AllByRecursion}
use Rattle.df_form.specs.Log.{combination_of}
use Rattle.df_logtext.specs.StepText.{combination_words}
use Rattle.df_logtext.specs.Writes.{Writes}
use Rattle.df_logtext.proofs.word.push_combinations.Given as goal

abbrev pub invariant-loop-combination : goal.invariant-loop-combination
invariant-loop-combination l = Writes l.initial.text.items l.text.items (behind 32 (flat_map combination_words (map combination_of (take l.combination-index l.combinations)))) (AllByRecursion HasCombination (map combination_of (take l.combination-index l.combinations)))
