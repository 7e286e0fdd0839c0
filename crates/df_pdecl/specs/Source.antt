-- The syntax tree of a source.
use Rattle.std.specs.Prelude.{◌≡◌, List, map}
use Rattle.df_base.specs.declared.pos.Pos.{Pos}
use Rattle.df_tok.specs.Token.{Token}
use Rattle.df_tree.specs.Ast.{ast_of}
use Rattle.df_tree.specs.Spelling.{IsAstOf}
use Rattle.df_tree.specs.declared.ast.Tree as declared
use Rattle.df_tree.specs.declared.table.TheConstants.{FILE}

abbrev pub places_of : List Token → List Pos
places_of tokens = map (λ (x : Token). x.pos) tokens

-- that of the one tree of the grammar that spells all of the tokens, with their places
pub record IsSource (tokens : List Token) (tree : declared.Tree) : Type 0 where
  pub spelled : IsAstOf FILE tokens (ast_of tree.file)
  pub placed : tree.places.items ≡ places_of tokens
