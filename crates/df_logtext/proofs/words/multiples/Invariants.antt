use Rattle.std.proofs.Common.{◌≡◌, [], map, drop}
use Rattle.df_logtext.specs.Words.{each_from, multiple_of}
use Rattle.df_logtext.proofs.words.multiples.Given as goal

-- what is read so far, and what is left
abbrev pub invariant-loop-word : goal.invariant-loop-word
invariant-loop-word l = each_from multiple_of l.multiples.items (map (λ word. word.now) (drop l.word-index l.words)) ≡ each_from multiple_of [] (map (λ word. word.now) l.words)
