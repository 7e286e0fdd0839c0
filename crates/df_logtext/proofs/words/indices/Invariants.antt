use Rattle.std.proofs.Common.{◌≡◌, [], map, drop}
use Rattle.df_logtext.specs.Words.{each_from, index_of}
use Rattle.df_logtext.proofs.words.indices.Given as goal

-- what is read so far, and what is left
abbrev pub invariant-loop-word : goal.invariant-loop-word
invariant-loop-word l = each_from index_of l.numbers.items (map (λ word. word.now) (drop l.word-index l.words)) ≡ each_from index_of [] (map (λ word. word.now) l.words)
