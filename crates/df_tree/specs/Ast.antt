-- Syntax trees: a node for each construct, with its text, and the tokens that matter.
use Rattle.std.specs.Prelude.{ℕ, ◌+◌, ◌≤◌, List, [], ◌∷◌, ◌++◌}
use Rattle.df_tok.specs.declared.token.Kind.{Kind}
use Rattle.df_tree.specs.declared.ast.Mark as declared_mark
use Rattle.df_tree.specs.declared.ast.Ast as declared
use Rattle.df_tree.specs.declared.ast.Ast.TheOpen.{Ast-F}
use Rattle.df_tree.specs.declared.ast.Ast.TheFolds.{fold-Ast}
pub use Rattle.df_tree.specs.declared.label.Label.{Label}
pub use Rattle.df_tree.specs.declared.label.Span.{Span}

-- a token that is kept: its number, what it is, and of a string literal how it is written
pub record Mark : Type 0 where
  pub place : ℕ
  pub kind : Kind
  pub text : List ℕ

mutual
  pub data Ast : Type 0 where
    Kept : Mark → Ast
    Made : Label → Span → Asts → Ast

  pub data Asts : Type 0 where
    Nil : Asts
    Next : Ast → Asts → Asts

abbrev pub asts_of : List Ast → Asts
asts_of [] = Nil
asts_of (t ∷ ts) = Next t (asts_of ts)

abbrev pub mark_of : declared_mark.Mark → Mark
mark_of m = record { place = m.place; kind = m.kind; text = m.text.items }

abbrev pub ast_step : Ast-F Ast → Ast
ast_step (Ast-F.Leaf x) = Kept (mark_of x)
ast_step (Ast-F.Node label span inside) = Made label span (asts_of inside.items)

-- the code's tree, without where it lies in memory
abbrev pub ast_of : declared.Ast → Ast
ast_of = fold-Ast Ast ast_step

-- the tokens that it keeps
abbrev pub kept : Asts → List Mark
kept Nil = []
kept (Next (Kept x) rest) = x ∷ kept rest
kept (Next (Made label span inside) rest) = kept inside ++ kept rest

-- Between these places tokens and nodes stand in order, each within the text of the node around it.
abbrev pub Lies : ℕ → Asts → ℕ → Type 0
Lies a Nil b = a ≤ b
Lies a (Next (Kept x) rest) b = (a ≤ x.place) × Lies (x.place + 1) rest b
Lies a (Next (Made label span inside) rest) b = (a ≤ span.start) × Lies span.start inside span.after × Lies span.after rest b
