-- The nodes of an expression that begins at a token, each where it stands.
use Rattle.std.specs.Prelude.{ℕ, suc, ◌+◌, true, false, List, [], ◌∷◌, ◌++◌, length, Option, Some, None}
use Rattle.df_base.specs.declared.pos.Pos.{Pos}
use Rattle.df_lang.specs.declared.ty.Ty.{Ty}
use Rattle.df_lang.specs.declared.ty.Ty.TheVariants as types
use Rattle.df_ntree.specs.declared.expr.UnaryOperator.TheVariants as unary
use Rattle.df_ntree.specs.declared.expr.Group.{Group}
use Rattle.df_ntree.specs.declared.expr.Group.TheVariants as groups
use Rattle.df_ntree.specs.declared.expr.TreeType.{TreeType}
use Rattle.df_ntree.specs.declared.expr.TreeType.TheVariants as trees
use Rattle.df_ntree.specs.Expr.{Expr, Number, Character, Truth, Name, Parentheses, Call, Unary, Cast, Operations, Leading, Members, end, more, Arguments, no_more, argument}
use Rattle.df_ntree.specs.ExprSpelling.{first_group, spell}
use Rattle.df_ntyping.specs.Types.{arithmetic}
use Rattle.df_ntyping.specs.Table.{Signature, type_of}
use Rattle.df_ntyping.specs.Environment.{Environment}
use Rattle.df_ntyping.specs.Meaning.{called_signature}
use Rattle.df_ntyping.specs.Places.{beginning_of}
use Rattle.df_ntyping.specs.ExprTypes.{type_in, wanted_first, wanted_behind}
use Rattle.df_ntyping.specs.Node as nodes
use Rattle.df_ntyping.specs.Node.{Node, Occurrence}

-- how many tokens spell an expression
abbrev pub width : Expr → ℕ
width e = length (spell e)

-- a node from one token to before another
abbrev pub occurrence : Environment → Node → ℕ → ℕ → Occurrence
occurrence env node start after = record { env = env; node = node; start = start; after = after }

-- one token
abbrev pub token_at : Environment → Node → ℕ → Occurrence
token_at env node start = occurrence env node start (suc start)

-- ---- types

-- a type that is a name is used
abbrev pub type_nodes : Environment → ℕ → TreeType → List Occurrence
type_nodes env start (trees.Basic basic pos) = []
type_nodes env start (trees.Named ident) = token_at env (nodes.UsedType ident) start ∷ []

-- A run of `as`, each with its type: the node of each begins where the operand does.
abbrev pub cast_nodes : Environment → ℕ → Option Pos → ℕ → Option Ty → List TreeType → List Occurrence
cast_nodes env start pos word source [] = []
cast_nodes env start pos word source (ty ∷ others) =
    let target = type_of env.table.newtypes ty in
    type_nodes env (suc word) ty
    ++ occurrence env (nodes.Conversion source target pos) start (word + 2) ∷ cast_nodes env start pos (word + 2) target others

-- ---- runs

-- what stands on the left of the next sign: the sum or the product so far, the last member of a chain, or a truth
abbrev pub left_of_next : Option Group → Option Ty → Option Ty → Option Ty
left_of_next (Some groups.Sum) left right = arithmetic left right
left_of_next (Some groups.Product) left right = arithmetic left right
left_of_next (Some groups.Comparison) left right = right
left_of_next group left right = Some types.Bool

-- the right side of a sign that holds to the right
abbrev pub right_of_last : Members → Option Ty → Option Ty
right_of_last end own = own
right_of_last (more operator pos operand rest) own = Some types.Bool

abbrev pub chain_nodes : Environment → Option Group → ℕ → ℕ → Members → List Occurrence
chain_nodes env (Some groups.Comparison) start after members = occurrence env (nodes.Chain members) start after ∷ []
chain_nodes env group start after members = []

-- ---- calls

-- the types of the places that arguments go to, one after another
abbrev pub places_of : Option Signature → List (Option Ty)
places_of None = []
places_of (Some signature) = signature.parameters

abbrev pub first_place : List (Option Ty) → Option Ty
first_place [] = None
first_place (ty ∷ others) = ty

abbrev pub other_places : List (Option Ty) → List (Option Ty)
other_places [] = []
other_places (ty ∷ others) = others

abbrev pub count : Arguments → ℕ
count no_more = 0
count (argument e rest) = suc (count rest)

-- the name of what is called is used, and is no expression of its own
abbrev pub callee_nodes : Environment → ℕ → Expr → List Occurrence → List Occurrence
callee_nodes env start (Name ident) inside = token_at env (nodes.UsedName ident) start ∷ []
callee_nodes env start callee inside = inside

-- ---- expressions

abbrev mutual
  pub expr_nodes : Environment → ℕ → Expr → List Occurrence
  expr_nodes env start (Number literal) = []
  expr_nodes env start (Character code pos) = []
  expr_nodes env start (Truth value pos) = []
  expr_nodes env start (Name ident) = token_at env (nodes.UsedName ident) start ∷ token_at env (nodes.Plain ident) start ∷ []
  expr_nodes env start (Parentheses pos inner) = expr_nodes env (suc start) inner
  expr_nodes env start (Call callee arguments) =
      callee_nodes env start callee (expr_nodes env start callee)
      ++ argument_nodes env (start + width callee + 1) (places_of (called_signature env callee)) arguments
      ++ occurrence env (nodes.Call false callee (count arguments)) start (start + width (Call callee arguments)) ∷ []
  expr_nodes env start (Unary unary.Negate pos operand) =
      expr_nodes env (suc start) operand ++ occurrence env (nodes.Minus (type_in env None operand) pos) start (start + 1 + width operand) ∷ []
  expr_nodes env start (Unary unary.Not pos operand) =
      expr_nodes env (suc start) operand ++ occurrence env (nodes.Negation (type_in env None operand) pos) start (start + 1 + width operand) ∷ []
  expr_nodes env start (Cast operand all) =
      expr_nodes env start operand ++ cast_nodes env start (beginning_of operand) (start + width operand) (type_in env None operand) all
  expr_nodes env start (Operations first rest) =
      let group = first_group rest in
      let wanted = wanted_first env None first rest in
      let left = type_in env wanted first in
      let after = start + width (Operations first rest) in
      expr_nodes env start first
      ++ run_nodes env group start (start + width first) (wanted_behind env wanted first) left after rest
      ++ chain_nodes env group start after rest
  expr_nodes env start (Leading operations) =
      run_nodes env (first_group operations) start start None (Some types.Bool) (start + width (Leading operations)) operations

  -- The signs of a run with the operands behind them. The node of a sign that holds to the left begins where the run does,
  -- and ends behind its operand. That of an implication begins where its left operand does, and ends where the run does.
  pub run_nodes : Environment → Option Group → (start sign : ℕ) → (wanted left : Option Ty) → (after : ℕ) → Members → List Occurrence
  run_nodes env group start sign wanted left after end = []
  run_nodes env (Some groups.Implication) start sign wanted left after (more operator pos operand rest) =
      let right = type_in env None operand in
      expr_nodes env (suc sign) operand
      ++ run_nodes env (Some groups.Implication) (suc sign) (sign + 1 + width operand) None right after rest
      ++ occurrence env (nodes.Sign left operator pos (right_of_last rest right)) start after ∷ []
  run_nodes env group start sign wanted left after (more operator pos operand rest) =
      let right = type_in env wanted operand in
      expr_nodes env (suc sign) operand
      ++ occurrence env (nodes.Sign left operator pos right) start (sign + 1 + width operand)
      ∷ run_nodes env group start (sign + 1 + width operand) (wanted_behind env wanted operand) (left_of_next group left right) after rest

  pub argument_nodes : Environment → ℕ → List (Option Ty) → Arguments → List Occurrence
  argument_nodes env start places no_more = []
  argument_nodes env start places (argument e rest) =
      expr_nodes env start e
      ++ occurrence env (nodes.Value (first_place places) e) start (start + width e)
      ∷ argument_nodes env (start + width e + 1) (other_places places) rest

-- ---- whole expressions

-- one that is given to a place of the type
abbrev pub value_nodes : Environment → ℕ → Option Ty → Expr → List Occurrence
value_nodes env start place e = expr_nodes env start e ++ occurrence env (nodes.Value place e) start (start + width e) ∷ []

abbrev pub condition_nodes : Environment → ℕ → Expr → List Occurrence
condition_nodes env start e = expr_nodes env start e ++ occurrence env (nodes.Condition e) start (start + width e) ∷ []

-- expressions, parted by commas, of which nothing is asked but that they are typed
abbrev pub exprs_nodes : Environment → ℕ → List Expr → List Occurrence
exprs_nodes env start [] = []
exprs_nodes env start (e ∷ others) = expr_nodes env start e ++ exprs_nodes env (start + width e + 1) others

-- a call that is a whole right side or statement
abbrev pub call_nodes : Environment → ℕ → Expr → Arguments → List Occurrence
call_nodes env start callee arguments =
    callee_nodes env start callee (expr_nodes env start callee)
    ++ argument_nodes env (start + width callee + 1) (places_of (called_signature env callee)) arguments
    ++ occurrence env (nodes.Call true callee (count arguments)) start (start + width (Call callee arguments)) ∷ []
