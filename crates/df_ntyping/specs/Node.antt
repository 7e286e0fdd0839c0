-- What rules are asked of: nodes of the tree, each with what it needs to be looked at by itself. A node of a sign has the
-- types of what stands on its left and on its right.
use Rattle.std.specs.Prelude.{ℕ, Bool, List, Option, Some, None}
use Rattle.df_base.specs.declared.pos.Pos.{Pos}
use Rattle.df_lang.specs.declared.ty.Ty.{Ty}
use Rattle.df_ntree.specs.declared.tree.Ident.{Ident}
use Rattle.df_ntree.specs.declared.expr.BinaryOperator.{BinaryOperator}
use Rattle.df_ntree.specs.Expr.{Expr, Members}
use Rattle.df_ntree.specs.File.{Clause, NewtypeDeclaration}
use Rattle.df_ntyping.specs.Environment.{Environment}
use Rattle.df_ntyping.specs.Places.{beginning_of, pos_of, first_sign}

-- what a clause belongs to
pub data Owner : Type 0 where
  OfMethod : Owner
  OfLoop : Owner

pub data Node : Type 0 where
  -- ---- names
  -- declared behind others of its scope
  NewName : (before : List ℕ) → Ident → Node
  -- used in an expression, before arguments, or on the left of an assignment
  UsedName : Ident → Node
  -- used as a type
  UsedType : Ident → Node
  -- ---- expressions
  -- a name that stands as an expression
  Plain : Ident → Node
  -- a minus before an operand of the type
  Minus : (operand : Option Ty) → Pos → Node
  -- `!` before an operand of the type
  Negation : (operand : Option Ty) → Pos → Node
  -- a sign: what stands on its left, from the first member of its run, and on its right
  Sign : (left : Option Ty) → BinaryOperator → Pos → (right : Option Ty) → Node
  -- a whole chain of comparisons
  Chain : Members → Node
  -- `e as type`, with where `e` begins
  Conversion : (source target : Option Ty) → Option Pos → Node
  -- a call: a whole right side or statement, or in an expression
  Call : (is_whole : Bool) → (callee : Expr) → (arguments : ℕ) → Node
  -- ---- what is asked of a whole expression
  -- it is given to a place of the type
  Value : (place : Option Ty) → Expr → Node
  -- it is a guard, a condition or a contract
  Condition : Expr → Node
  -- a call's results are given to places of the types
  Results : (places results : List (Option Ty)) → (call : Expr) → Node
  -- it stands as a statement, and is no call
  NoCall : Expr → Node
  -- ---- statements
  -- the left side of an assignment
  Place : Expr → Node
  -- so many left sides, and these right sides
  Assignment : (places : ℕ) → (values : List Expr) → Option Pos → Node
  -- a local of this number, declared without a type and a value
  Untyped : (number : ℕ) → Ident → Node
  Return : (values : List Expr) → Pos → Node
  Break : Pos → Node
  ClauseOf : Owner → Clause → Node
  Loop : (guard : Expr) → List Clause → Pos → Node
  -- ---- declarations
  Newtype : NewtypeDeclaration → Node

-- A node in its file: where it stands, from which token on, and before which; tokens count from 0.
pub record Occurrence : Type 0 where
  pub env : Environment
  pub node : Node
  pub start : ℕ
  pub after : ℕ

abbrev pub clause_pos : Clause → Pos
clause_pos (Clause.Condition kind pos condition) = pos
clause_pos (Clause.Decreases pos values) = pos

-- where a node is told; each of the grammar stands somewhere
abbrev pub node_pos : Node → Option Pos
node_pos (NewName before ident) = Some ident.pos
node_pos (UsedName ident) = Some ident.pos
node_pos (UsedType ident) = Some ident.pos
node_pos (Plain ident) = Some ident.pos
node_pos (Minus operand pos) = Some pos
node_pos (Negation operand pos) = Some pos
node_pos (Sign left operator pos right) = Some pos
node_pos (Chain members) = first_sign members
node_pos (Conversion source target pos) = pos
node_pos (Call is_whole callee arguments) = beginning_of callee
node_pos (Value place e) = pos_of e
node_pos (Condition e) = pos_of e
node_pos (Results places results call) = beginning_of call
node_pos (NoCall e) = beginning_of e
node_pos (Place e) = beginning_of e
node_pos (Assignment places values pos) = pos
node_pos (Untyped number ident) = Some ident.pos
node_pos (Return values pos) = Some pos
node_pos (Break pos) = Some pos
node_pos (ClauseOf owner clause) = Some (clause_pos clause)
node_pos (Loop guard clauses pos) = Some pos
node_pos (Newtype declaration) = Some declaration.name.pos

-- the name that a rule of names tells
abbrev pub node_name : Node → Option ℕ
node_name (NewName before ident) = Some ident.name
node_name (UsedName ident) = Some ident.name
node_name (UsedType ident) = Some ident.name
node_name node = None
