use Rattle.std.proofs.Common.{◌≡◌, [], map, length}
use Rattle.df_logtext.specs.Words.{pairs_from}
use Rattle.df_logtext.proofs.words.pairs.Given as goal

-- what is read so far, and what is left
abbrev pub invariant-loop-rest : goal.invariant-loop-rest
invariant-loop-rest l = pairs_from l.pairs.items (map (λ word. word.now) l.rest) ≡ pairs_from [] (map (λ word. word.now) l.words)

abbrev pub decreases-loop-rest : goal.decreases-loop-rest
decreases-loop-rest l = length l.rest
