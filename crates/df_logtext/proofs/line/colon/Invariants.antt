use Rattle.std.proofs.Common.{◌≡◌, map, drop, codes}
use Rattle.df_base.specs.Names.{same_text}
use Rattle.df_logtext.specs.Words.{place_from}
use Rattle.df_logtext.proofs.line.colon.Given as goal

abbrev pub invariant-loop-at : goal.invariant-loop-at
invariant-loop-at l = place_from (λ text. same_text text (codes ":")) l.at (map (λ word. word.now) (drop l.at l.words)) ≡ place_from (λ text. same_text text (codes ":")) 0 (map (λ word. word.now) l.words)
