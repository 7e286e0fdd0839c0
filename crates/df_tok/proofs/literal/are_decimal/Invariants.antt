use Rattle.std.proofs.Common.{◌≡◌, false, drop}
use Rattle.df_tok.specs.Byte.{is_digit}
use Rattle.df_tok.specs.Scanning.{are_digits}
use Rattle.df_tok.proofs.literal.are_decimal.Given as goal

-- the answer on the rest is the answer on all
abbrev pub invariant-loop-b : goal.invariant-loop-b
invariant-loop-b l = are_digits is_digit l.before (drop l.b-index l.text) ≡ are_digits is_digit false l.text
