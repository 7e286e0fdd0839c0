use Rattle.std.proofs.Common.{◌≡◌, ◌+◌, false, drop}
use Rattle.df_tok.specs.Byte.{is_hex_digit}
use Rattle.df_tok.specs.Scanning.{digits_begun}
use Rattle.df_tok.proofs.begun.hexadecimal_begun.Given as goal

-- the bytes so far, and those in the rest
abbrev pub invariant-loop-b : goal.invariant-loop-b
invariant-loop-b l = (l.n ≡ l.b-index) × (l.n + digits_begun is_hex_digit l.before (drop l.b-index l.bytes) ≡ digits_begun is_hex_digit false l.bytes)
