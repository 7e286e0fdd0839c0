-- How the syntax tree of a concrete one is built: a fold, in which each production does what its row says.
use Rattle.std.specs.Prelude.{ℕ, ◌+◌, Bool, List, [], ◌∷◌, ◌++◌, length, if◌then◌else◌, Option, Some, None}
use Rattle.std.specs.Option.{unwrap_or}
use Rattle.df_tok.specs.Token.{Token}
use Rattle.df_tree.specs.declared.label.Way.{Way}
use Rattle.df_tree.specs.declared.label.Way.TheVariants.{Pass, Title, Wrap, Make, Close}
use Rattle.df_tree.specs.Tree.{Tree, Leaf, Node, Trees, none, more, leaves, leaves_all}
use Rattle.df_tree.specs.declared.class.TheConstants.{KEPT}
use Rattle.df_tok.specs.declared.token.Kind.{Kind}
use Rattle.df_tok.specs.declared.token.Kind.TheVariants as kinds
use Rattle.df_tree.specs.Terminal.{terminal}
use Rattle.df_tree.specs.Ast.{Label, Mark, Ast, Asts, Kept, Made, asts_of}
use Rattle.df_tree.specs.Grammar.{row, is_in, kinds_of}

-- what is to become the inside of a node
pub record Frame : Type 0 where
  pub start : ℕ
  pub title : Option Label
  pub items : List Ast

abbrev pub opened : ℕ → Frame
opened start = record { start = start; title = None; items = [] }

abbrev pub added : Frame → List Ast → Frame
added frame items = record { start = frame.start; title = frame.title; items = frame.items ++ items }

-- a token is kept where its terminal matters
abbrev pub matters : Token → Bool
matters x = is_in (terminal x) (kinds_of KEPT)

-- how a string literal is written
abbrev pub text_of : Kind → List ℕ → List ℕ
text_of kinds.Text text = text
text_of kind text = []

-- the token of this number
abbrev pub mark_at : ℕ → Token → Mark
mark_at at x = record { place = at; kind = x.kind; text = text_of x.kind x.text }

abbrev pub keep : ℕ → Token → Frame → Frame
keep at x frame = if matters x then added frame (Kept (mark_at at x) ∷ []) else frame

-- those of the tokens, the first of which has the number, that are kept
abbrev pub that_matter : ℕ → List Token → List Mark
that_matter at [] = []
that_matter at (x ∷ xs) = if matters x then mark_at at x ∷ that_matter (at + 1) xs else that_matter (at + 1) xs

abbrev pub node_of : Label → ℕ → Frame → Ast
node_of label after frame = Made label (record { start = frame.start; after = after }) (asts_of frame.items)

abbrev pub closed : Option Label → ℕ → Frame → List Ast
closed None after frame = frame.items
closed (Some label) after frame = node_of label after frame ∷ []

-- the frame in which the parts of a production stand
abbrev pub enter : Way → ℕ → Frame → Frame
enter Pass at frame = frame
enter (Title label) at frame = frame
enter (Wrap label) at frame = frame
enter (Make label) at frame = opened at
enter Close at frame = opened at

-- the one around it, where it is another
abbrev pub outside : Way → ℕ → Frame → Frame
outside Pass at frame = opened at
outside (Title label) at frame = opened at
outside (Wrap label) at frame = opened at
outside (Make label) at frame = frame
outside Close at frame = frame

-- the frame around, behind them
abbrev pub leave : Way → Frame → ℕ → Frame → Frame
leave Pass outer after frame = frame
leave (Title label) outer after frame = record { start = frame.start; title = Some (unwrap_or frame.title label); items = frame.items }
leave (Wrap label) outer after frame = record { start = frame.start; title = None; items = node_of (unwrap_or frame.title label) after frame ∷ [] }
leave (Make label) outer after frame = added outer (node_of (unwrap_or frame.title label) after frame ∷ [])
leave Close outer after frame = added outer (closed frame.title after frame)

abbrev mutual
  -- the frame with what a tree makes, which stands from a token on
  pub built : ℕ → Frame → Tree → Frame
  built at frame (Leaf x) = keep at x frame
  built at frame (Node n ts) = leave (row n).way frame (at + length (leaves_all ts)) (built_all at (enter (row n).way at frame) ts)

  pub built_all : ℕ → Frame → Trees → Frame
  built_all at frame none = frame
  built_all at frame (more t ts) = built_all (at + length (leaves t)) (built at frame t) ts

-- the syntax tree of a concrete one that begins at the token of this number
abbrev pub ast_from : ℕ → Tree → Asts
ast_from at t = asts_of (built at (opened at) t).items
