-- What holds of the nodes of an expression, and does not speak of where they stand, holds of them wherever it begins.
use Rattle.std.proofs.Common.{ℕ, suc, ◌+◌, List, [], ◌∷◌, ◌++◌, Option, Some, None}
use Rattle.df_base.specs.declared.pos.Pos.{Pos}
use Rattle.df_lang.specs.declared.ty.Ty.{Ty}
use Rattle.df_lang.specs.declared.ty.Ty.TheVariants as types
use Rattle.df_ntree.specs.declared.expr.UnaryOperator.TheVariants as unary
use Rattle.df_ntree.specs.declared.expr.Group.{Group}
use Rattle.df_ntree.specs.declared.expr.Group.TheVariants as groups
use Rattle.df_ntree.specs.declared.expr.TreeType.{TreeType}
use Rattle.df_ntree.specs.declared.expr.TreeType.TheVariants as trees
use Rattle.df_ntree.specs.Expr.{Expr, Number, Character, Truth, Name, Parentheses, Call, Unary, Cast, Operations, Leading, Members, end, more, Arguments, no_more, argument}
use Rattle.df_ntree.specs.ExprSpelling.{first_group}
use Rattle.df_ntyping.specs.Environment.{Environment}
use Rattle.df_ntyping.specs.Node.{Node, Occurrence}
use Rattle.df_ntyping.specs.ExprNodes.{type_nodes, cast_nodes, chain_nodes, callee_nodes, expr_nodes, run_nodes, argument_nodes}
use Rattle.df_ntyping.proofs.AllNodes.{Alls, none, front, only, both, head, tail, left, right}

-- it holds of the node in its environment
pub record Of (Q : Environment → Node → Type 0) (one : Occurrence) : Type 0 where
  pub holds : Q one.env one.node

-- of the node elsewhere
elsewhere : {Q : Environment → Node → Type 0} {env : Environment} {node : Node} {start after begin behind : ℕ} → Of Q (record { env = env; node = node; start = start; after = after }) → Of Q (record { env = env; node = node; start = begin; after = behind })
elsewhere h = record { holds = h.holds }

type_moved : {Q : Environment → Node → Type 0} (env : Environment) (start other : ℕ) (ty : TreeType) → Alls (Of Q) (type_nodes env start ty) → Alls (Of Q) (type_nodes env other ty)
type_moved env start other (trees.Basic basic pos) h = none
type_moved env start other (trees.Named ident) h = only (elsewhere (head h))

cast_moved : {Q : Environment → Node → Type 0} (env : Environment) (start other : ℕ) (pos : Option Pos) (word at : ℕ) (source : Option Ty) (all : List TreeType) → Alls (Of Q) (cast_nodes env start pos word source all)
    → Alls (Of Q) (cast_nodes env other pos at source all)
cast_moved env start other pos word at source [] h = none
cast_moved env start other pos word at source (ty ∷ others) h =
    let rest = right (type_nodes env (suc word) ty) _ h in
    both (type_moved env (suc word) (suc at) ty (left (type_nodes env (suc word) ty) _ h)) (front (elsewhere (head rest)) (cast_moved env start other pos (word + 2) (at + 2) _ others (tail rest)))

chain_moved : {Q : Environment → Node → Type 0} (env : Environment) (group : Option Group) (start other after behind : ℕ) (members : Members) → Alls (Of Q) (chain_nodes env group start after members) → Alls (Of Q) (chain_nodes env group other behind members)
chain_moved env (Some groups.Comparison) start other after behind members h = only (elsewhere (head h))
chain_moved env group start other after behind members h = none

callee_moved : {Q : Environment → Node → Type 0} (env : Environment) (start other : ℕ) (callee : Expr) (xs ys : List Occurrence) → (Alls (Of Q) xs → Alls (Of Q) ys) → Alls (Of Q) (callee_nodes env start callee xs) → Alls (Of Q) (callee_nodes env other callee ys)
callee_moved env start other (Name ident) xs ys f h = only (elsewhere (head h))
callee_moved env start other callee xs ys f h = f h

mutual
  pub expr_moved : {Q : Environment → Node → Type 0} (env : Environment) (start other : ℕ) (e : Expr) → Alls (Of Q) (expr_nodes env start e) → Alls (Of Q) (expr_nodes env other e)
  expr_moved env start other (Number literal) h = none
  expr_moved env start other (Character code pos) h = none
  expr_moved env start other (Truth value pos) h = none
  expr_moved env start other (Name ident) h = front (elsewhere (head h)) (only (elsewhere (head (tail h))))
  expr_moved env start other (Parentheses pos inner) h = expr_moved env (suc start) (suc other) inner h
  expr_moved env start other (Call callee arguments) h =
      let front_two = left (callee_nodes env start callee (expr_nodes env start callee) ++ argument_nodes env _ _ arguments) _ h in
      let last = right (callee_nodes env start callee (expr_nodes env start callee) ++ argument_nodes env _ _ arguments) _ h in
      both (both (callee_moved env start other callee _ _ (expr_moved env start other callee) (left (callee_nodes env start callee (expr_nodes env start callee)) _ front_two))
      (arguments_moved env _ _ _ arguments (right (callee_nodes env start callee (expr_nodes env start callee)) _ front_two))) (only (elsewhere (head last)))
  expr_moved env start other (Unary unary.Negate pos operand) h =
      both (expr_moved env (suc start) (suc other) operand (left (expr_nodes env (suc start) operand) _ h)) (only (elsewhere (head (right (expr_nodes env (suc start) operand) _ h))))
  expr_moved env start other (Unary unary.Not pos operand) h =
      both (expr_moved env (suc start) (suc other) operand (left (expr_nodes env (suc start) operand) _ h)) (only (elsewhere (head (right (expr_nodes env (suc start) operand) _ h))))
  expr_moved env start other (Cast operand all) h =
      both (expr_moved env start other operand (left (expr_nodes env start operand) _ h)) (cast_moved env start other _ _ _ _ all (right (expr_nodes env start operand) _ h))
  expr_moved env start other (Operations first rest) h =
      let front_two = left (expr_nodes env start first ++ run_nodes env (first_group rest) start _ _ _ _ rest) (chain_nodes env (first_group rest) start _ rest) h in
      let last = right (expr_nodes env start first ++ run_nodes env (first_group rest) start _ _ _ _ rest) (chain_nodes env (first_group rest) start _ rest) h in
      both (both (expr_moved env start other first (left (expr_nodes env start first) _ front_two)) (run_moved env (first_group rest) start other _ _ _ _ _ _ rest (right (expr_nodes env start first) _ front_two)))
      (chain_moved env (first_group rest) start other _ _ rest last)
  expr_moved env start other (Leading operations) h = run_moved env (first_group operations) start other start other None (Some types.Bool) _ _ operations h

  run_moved : {Q : Environment → Node → Type 0} (env : Environment) (group : Option Group) (start other sign at : ℕ) (wanted of_left : Option Ty) (after behind : ℕ) (rest : Members) → Alls (Of Q) (run_nodes env group start sign wanted of_left after rest)
      → Alls (Of Q) (run_nodes env group other at wanted of_left behind rest)
  run_moved env group start other sign at wanted of_left after behind end h = none
  run_moved env (Some groups.Implication) start other sign at wanted of_left after behind (more operator pos operand rest) h =
      let front_two = left (expr_nodes env (suc sign) operand ++ run_nodes env (Some groups.Implication) (suc sign) _ _ _ after rest) _ h in
      let last = right (expr_nodes env (suc sign) operand ++ run_nodes env (Some groups.Implication) (suc sign) _ _ _ after rest) _ h in
      both (both (expr_moved env (suc sign) (suc at) operand (left (expr_nodes env (suc sign) operand) _ front_two))
      (run_moved env (Some groups.Implication) (suc sign) (suc at) _ _ _ _ after behind rest (right (expr_nodes env (suc sign) operand) _ front_two))) (only (elsewhere (head last)))
  run_moved env group start other sign at wanted of_left after behind (more operator pos operand rest) h =
      let last = right (expr_nodes env (suc sign) operand) _ h in
      both (expr_moved env (suc sign) (suc at) operand (left (expr_nodes env (suc sign) operand) _ h)) (front (elsewhere (head last)) (run_moved env group start other _ _ _ _ after behind rest (tail last)))

  pub arguments_moved : {Q : Environment → Node → Type 0} (env : Environment) (start other : ℕ) (places : List (Option Ty)) (arguments : Arguments) → Alls (Of Q) (argument_nodes env start places arguments) → Alls (Of Q) (argument_nodes env other places arguments)
  arguments_moved env start other places no_more h = none
  arguments_moved env start other places (argument e rest) h =
      let last = right (expr_nodes env start e) _ h in
      both (expr_moved env start other e (left (expr_nodes env start e) _ h)) (front (elsewhere (head last)) (arguments_moved env _ _ _ rest (tail last)))
