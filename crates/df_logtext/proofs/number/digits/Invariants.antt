use Rattle.std.proofs.Common.{◌≡◌, ◌<◌, drop}
use Rattle.df_logtext.specs.Numeral.{digits_after}
use Rattle.df_logtext.proofs.number.digits.Given as goal

-- the number of what is left behind the value so far
abbrev pub invariant-loop-byte : goal.invariant-loop-byte
invariant-loop-byte l = record {
  value : digits_after l.limit l.value (drop l.byte-index l.bytes) ≡ digits_after l.limit 0 l.bytes;
  below : l.value < l.limit;
}
