use Rattle.std.proofs.Common.{◌≡◌, drop}
use Rattle.std.specs.List.{find}
use Rattle.df_tok.specs.Scanning.{is_written}
use Rattle.df_tok.proofs.word.first_of.Given as goal

-- the answer on the rest is the answer on all
abbrev pub invariant-loop-word : goal.invariant-loop-word
invariant-loop-word l = find (is_written l.text) (drop l.word-index l.words) ≡ find (is_written l.text) l.words
