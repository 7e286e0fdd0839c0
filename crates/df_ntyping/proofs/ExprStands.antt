-- Each node of an expression of the grammar stands somewhere.
use Rattle.std.proofs.Common.{◌≡◌, ℕ, suc, ◌+◌, List, [], ◌∷◌, Option, Some, None, refl}
use Rattle.df_base.specs.declared.pos.Pos.{Pos}
use Rattle.df_lang.specs.declared.ty.Ty.{Ty}
use Rattle.df_lang.specs.declared.ty.Ty.TheVariants as types
use Rattle.df_ntree.specs.declared.expr.UnaryOperator.TheVariants as unary
use Rattle.df_ntree.specs.declared.expr.Group.{Group}
use Rattle.df_ntree.specs.declared.expr.Group.TheVariants as groups
use Rattle.df_ntree.specs.declared.expr.TreeType.{TreeType}
use Rattle.df_ntree.specs.declared.expr.TreeType.TheVariants as trees
use Rattle.df_ntree.specs.Expr.{Expr, Number, Character, Truth, Name, Parentheses, Call, Unary, Cast, Operations, Leading, Members, end, more, Arguments, no_more, argument}
use Rattle.df_ntree.specs.ExprSpelling.{first_group, IsExpr, AreOf, AreArguments}
use Rattle.df_ntyping.specs.Environment.{Environment}
use Rattle.df_ntyping.specs.Node.{Occurrence, node_pos}
use Rattle.df_ntyping.specs.Places.{first_sign, beginning_of}
use Rattle.df_ntyping.specs.ExprNodes.{type_nodes, cast_nodes, chain_nodes, callee_nodes, expr_nodes, run_nodes, argument_nodes}
use Rattle.df_ntyping.specs.mirror.Parts.{or_start}
use Rattle.df_ntyping.proofs.AllNodes.{Alls, none, front, only, both}
use Rattle.df_ntyping.proofs.Standing.{sign_there, begins, stands}

pub record Stands (one : Occurrence) : Type 0 where
  pub pos : Pos
  pub there : node_pos one.node ≡ Some pos

-- a node that is told where its place is kept
pub kept : {one : Occurrence} (pos : Pos) → node_pos one.node ≡ Some pos → Stands one
kept pos p = record { pos = pos; there = p }

pub type_stands : (env : Environment) (start : ℕ) (ty : TreeType) → Alls Stands (type_nodes env start ty)
type_stands env start (trees.Basic basic pos) = none
type_stands env start (trees.Named ident) = only (kept ident.pos refl)

cast_stands : (env : Environment) (start : ℕ) (pos : Option Pos) (word : ℕ) (source : Option Ty) (all : List TreeType) (at : Pos) → pos ≡ Some at → Alls Stands (cast_nodes env start pos word source all)
cast_stands env start pos word source [] at p = none
cast_stands env start pos word source (ty ∷ others) at p = both (type_stands env (suc word) ty) (front (kept at p) (cast_stands env start pos (word + 2) _ others at p))

chain_stands : (env : Environment) (group : Option Group) (start after : ℕ) (members : Members) (of : Group) → first_group members ≡ Some of → Alls Stands (chain_nodes env group start after members)
chain_stands env (Some groups.Comparison) start after members of p = only (kept (or_start (first_sign members)) (sign_there members of p))
chain_stands env group start after members of p = none

pub callee_stands : (env : Environment) (start : ℕ) (callee : Expr) (inside : List Occurrence) → Alls Stands inside → Alls Stands (callee_nodes env start callee inside)
callee_stands env start (Name ident) inside h = only (kept ident.pos refl)
callee_stands env start callee inside h = h

mutual
  pub expr_stands : (env : Environment) (start : ℕ) (e : Expr) → IsExpr e → Alls Stands (expr_nodes env start e)
  expr_stands env start (Number literal) g = none
  expr_stands env start (Character code pos) g = none
  expr_stands env start (Truth value pos) g = none
  expr_stands env start (Name ident) g = front (kept ident.pos refl) (only (kept ident.pos refl))
  expr_stands env start (Parentheses pos inner) g = expr_stands env (suc start) inner g
  expr_stands env start (Call callee arguments) g =
      let (at, p) = begins callee g.0 in
      both (both (callee_stands env start callee _ (expr_stands env start callee g.0)) (arguments_stand env _ _ arguments g.2)) (only (kept at p))
  expr_stands env start (Unary unary.Negate pos operand) g = both (expr_stands env (suc start) operand g.0) (only (kept pos refl))
  expr_stands env start (Unary unary.Not pos operand) g = both (expr_stands env (suc start) operand g.0) (only (kept pos refl))
  expr_stands env start (Cast operand all) g =
      let (at, p) = begins operand g.0 in both (expr_stands env start operand g.0) (cast_stands env start (beginning_of operand) _ _ all at p)
  expr_stands env start (Operations first rest) g =
      both (both (expr_stands env start first g.2) (run_stands env (first_group rest) start _ _ _ _ rest g.0 g.4)) (chain_stands env (first_group rest) start _ rest g.0 g.1)
  expr_stands env start (Leading operations) g = run_stands env (first_group operations) start start None (Some types.Bool) _ operations g.0 g.3

  run_stands : (env : Environment) (group : Option Group) (start sign : ℕ) (wanted left : Option Ty) (after : ℕ) (rest : Members) (of : Group) → AreOf rest of → Alls Stands (run_nodes env group start sign wanted left after rest)
  run_stands env group start sign wanted left after end of g = none
  run_stands env (Some groups.Implication) start sign wanted left after (more operator pos operand rest) of g =
      both (both (expr_stands env (suc sign) operand g.1) (run_stands env (Some groups.Implication) _ _ _ _ after rest of g.3)) (only (kept pos refl))
  run_stands env group start sign wanted left after (more operator pos operand rest) of g =
      both (expr_stands env (suc sign) operand g.1) (front (kept pos refl) (run_stands env group start _ _ _ after rest of g.3))

  pub arguments_stand : (env : Environment) (start : ℕ) (places : List (Option Ty)) (arguments : Arguments) → AreArguments arguments → Alls Stands (argument_nodes env start places arguments)
  arguments_stand env start places no_more g = none
  arguments_stand env start places (argument e rest) g =
      let (at, p) = stands e g.0 in both (expr_stands env start e g.0) (front (kept at p) (arguments_stand env _ _ rest g.1))
