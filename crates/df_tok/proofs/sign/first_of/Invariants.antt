use Rattle.std.proofs.Common.{◌≡◌, drop}
use Rattle.std.specs.List.{find}
use Rattle.df_tok.specs.Scanning.{stands}
use Rattle.df_tok.proofs.sign.first_of.Given as goal

-- the answer on the rest is the answer on all
abbrev pub invariant-loop-sign : goal.invariant-loop-sign
invariant-loop-sign l = find (stands l.bytes) (drop l.sign-index l.signs) ≡ find (stands l.bytes) l.signs
