use Rattle.std.proofs.Common.{◌≡◌, ◌+◌, false, drop}
use Rattle.df_tok.specs.Scanning.{text_begun}
use Rattle.df_tok.proofs.begun.text_begun.Given as goal

-- the bytes so far, and those in the rest
abbrev pub invariant-loop-b : goal.invariant-loop-b
invariant-loop-b l = (l.n ≡ l.b-index) × (l.n + text_begun l.before (drop l.b-index l.bytes) ≡ text_begun false l.bytes)
