use Rattle.std.proofs.Common.{◌≡◌, map, take}
use Rattle.df_tok.specs.Token.{view}
use Rattle.df_pdecl.specs.Source.{places_of}
use Rattle.df_pdecl.proofs.places.Given as goal

abbrev pub invariant-loop-token : goal.invariant-loop-token
invariant-loop-token l = l.places.items ≡ places_of (map view (take l.token-index l.tokens))
