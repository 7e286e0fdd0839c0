use Rattle.std.proofs.Common.{◌≡◌, false, drop}
use Rattle.df_tok.specs.Scanning.{more, text_len}
use Rattle.df_tok.proofs.literal.text.Given as goal

-- the bytes so far, and those in the rest
abbrev pub invariant-loop-b : goal.invariant-loop-b
invariant-loop-b l = (l.n ≡ l.b-index) × (more l.n (text_len l.before (drop l.b-index l.bytes)) ≡ text_len false l.bytes)
