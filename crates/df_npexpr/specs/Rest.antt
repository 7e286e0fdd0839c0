-- The tokens that a cursor still has.
use Rattle.std.specs.Prelude.{List, map}
use Rattle.df_tok.specs.Token.{Token, view}
use Rattle.df_npexpr.specs.declared.cursor.Cursor.{Cursor}

abbrev pub rest_of : Cursor → List Token
rest_of cursor = map view cursor.rest.now
