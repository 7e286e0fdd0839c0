use Rattle.std.proofs.Common.{◌≡◌, ◌+◌, drop}
use Rattle.std.specs.List.{prefix_len}
use Rattle.df_tok.specs.Byte as spec
use Rattle.df_tok.proofs.run.identifier_len.Given as goal

-- the bytes so far, and those in the rest
abbrev pub invariant-loop-b : goal.invariant-loop-b
invariant-loop-b l = (l.n ≡ l.b-index) × (l.n + prefix_len spec.continues_identifier (drop l.b-index l.bytes) ≡ prefix_len spec.continues_identifier l.bytes)
