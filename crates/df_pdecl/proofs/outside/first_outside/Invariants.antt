use Rattle.std.proofs.Common.{◌≡◌, map, drop}
use Rattle.df_tok.specs.Token.{view}
use Rattle.df_pdecl.specs.Refusing.{first_outside}
use Rattle.df_pdecl.proofs.outside.first_outside.Given as goal

abbrev pub invariant-loop-number : goal.invariant-loop-number
invariant-loop-number l = first_outside (map view (drop l.number l.tokens)) ≡ first_outside (map view l.tokens)
