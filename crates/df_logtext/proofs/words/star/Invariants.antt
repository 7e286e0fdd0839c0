use Rattle.std.proofs.Common.{◌≡◌, drop}
use Rattle.std.specs.Prelude.{◌==◌}
use Rattle.df_logtext.specs.Words.{place_from}
use Rattle.df_logtext.proofs.words.star.Given as goal

abbrev pub invariant-loop-at : goal.invariant-loop-at
invariant-loop-at l = place_from (λ b. b == 42) l.at (drop l.at l.word) ≡ place_from (λ b. b == 42) 0 l.word
