use Rattle.std.proofs.Common.{take}
use Rattle.std.specs.List.{flat_map, AllByRecursion}
use Rattle.df_logtext.specs.HasText.{HasPair}
use Rattle.df_logtext.specs.Joined.{behind}
use Rattle.df_logtext.specs.StepText.{pair_words}
use Rattle.df_logtext.specs.Writes.{Writes}
use Rattle.df_logtext.proofs.word.push_pairs.Given as goal

abbrev pub invariant-loop-pair : goal.invariant-loop-pair
invariant-loop-pair l = Writes l.initial.text.items l.text.items (behind 32 (flat_map pair_words (take l.pair-index l.pairs))) (AllByRecursion HasPair (take l.pair-index l.pairs))
