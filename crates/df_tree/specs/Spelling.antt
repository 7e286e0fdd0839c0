-- The syntax trees of texts.
use Rattle.std.specs.Prelude.{◌≡◌, ℕ, ◌+◌, List, length}
use Rattle.df_tok.specs.Token.{Token}
use Rattle.df_tree.specs.declared.production.Part.TheVariants.{Nonterminal}
use Rattle.df_tree.specs.Tree.{Tree, leaves}
use Rattle.df_tree.specs.Ast.{Ast, Asts, Nil, Next, kept, Lies}
use Rattle.df_tree.specs.Grammar.{part_of, IsTree, IsTreeOf, IsPartAt}
use Rattle.df_tree.specs.Building.{ast_from, that_matter}

-- that of the one tree of the production that spells the tokens
pub record IsAstOf (n : ℕ) (tokens : List Token) (made : Ast) : Type 0 where
  pub tree : Tree
  pub spells : IsTreeOf n tokens tree
  pub only : (u : Tree) → IsTreeOf n tokens u → u ≡ tree
  pub is : ast_from 0 tree ≡ Next made Nil

-- that of the one tree of the production that spells the tokens from one number to before another
pub record IsAstAt (n : ℕ) (tokens : List Token) (start after : ℕ) (made : Ast) : Type 0 where
  pub tree : Tree
  pub spells : IsPartAt n tokens start after tree
  pub only : (other : ℕ) (u : Tree) → IsPartAt n tokens start other u → (other ≡ after) × (u ≡ tree)
  pub is : ast_from start tree ≡ Next made Nil

pub record IsOne (made : Asts) : Type 0 where
  pub ast : Ast
  pub is : made ≡ Next ast Nil

-- From each tree of the production just one syntax tree is built.
abbrev pub MakesOne : ℕ → Type 0
MakesOne n = (at : ℕ) (t : Tree) → part_of t ≡ Nonterminal n → IsTree t → IsOne (ast_from at t)

-- Syntax trees keep the tokens that matter, in their order.
abbrev pub KeepsAll : Type 0
KeepsAll = (at : ℕ) (t : Tree) → kept (ast_from at t) ≡ that_matter at (leaves t)

-- Their tokens and nodes stand in order, each within the text of the node around it.
abbrev pub LiesInText : Type 0
LiesInText = (at : ℕ) (t : Tree) → Lies at (ast_from at t) (at + length (leaves t))
