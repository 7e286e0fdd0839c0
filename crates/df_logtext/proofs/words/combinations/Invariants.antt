use Rattle.std.proofs.Common.{◌≡◌, [], map, drop, None}
use Rattle.df_form.specs.Log.{combination_of}
use Rattle.df_logtext.specs.Words.{combinations_from}
use Rattle.df_logtext.proofs.words.combinations.Given as goal

-- what is read so far, and what is left
abbrev pub invariant-loop-word : goal.invariant-loop-word
invariant-loop-word l = combinations_from (map combination_of l.combinations.items) l.divisor (map (λ word. word.now) (drop l.word-index l.words)) ≡ combinations_from [] None (map (λ word. word.now) l.words)
