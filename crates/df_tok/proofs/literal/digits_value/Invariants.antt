use Rattle.std.proofs.Common.{◌≡◌, ◌<◌, ◌^◌, drop}
use Rattle.df_tok.specs.Lexeme.{value_of_digits}
use Rattle.df_tok.proofs.Values.{value_from}
use Rattle.df_tok.proofs.literal.digits_value.Given as goal

-- the value of the digits so far, and with the rest that of all
abbrev pub invariant-loop-d : goal.invariant-loop-d
invariant-loop-d l = (value_from l.base l.value (drop l.d-index l.digits) ≡ value_of_digits l.base l.digits) × (l.value < 2 ^ 127)
