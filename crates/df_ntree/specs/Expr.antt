-- Expressions as contracts see them: operands of one level are lists.
use Rattle.std.specs.Prelude.{ℕ, Bool, List, [], ◌∷◌}
use Rattle.df_base.specs.declared.pos.Pos.{Pos}
use Rattle.df_ntree.specs.declared.tree.Ident.{Ident}
use Rattle.df_ntree.specs.declared.tree.Literal.{Literal}
use Rattle.df_ntree.specs.declared.expr.BinaryOperator.{BinaryOperator}
use Rattle.df_ntree.specs.declared.expr.UnaryOperator.{UnaryOperator}
use Rattle.df_ntree.specs.declared.expr.TreeType.{TreeType}
use Rattle.df_ntree.specs.declared.expr.Expr as declared
use Rattle.df_ntree.specs.declared.expr.Expr.TheOpen.{Expr-F, Operation-F}
use Rattle.df_ntree.specs.declared.expr.Expr.TheFolds.{fold-Expr, fold-Operation}
use Rattle.df_ntree.specs.declared.expr.Operation as declared_operation

mutual
  pub data Expr : Type 0 where
    Number : Literal → Expr
    Character : (code : ℕ) (pos : Pos) → Expr
    Truth : Bool → Pos → Expr
    Name : Ident → Expr
    Parentheses : Pos → Expr → Expr
    Call : (callee : Expr) (arguments : Arguments) → Expr
    Unary : UnaryOperator → Pos → Expr → Expr
    Cast : Expr → List TreeType → Expr
    Operations : Expr → Members → Expr
    Leading : Members → Expr

  -- operators, each with the operand after it
  pub data Members : Type 0 where
    end : Members
    more : BinaryOperator → Pos → Expr → Members → Members

  -- the arguments of a call
  pub data Arguments : Type 0 where
    no_more : Arguments
    argument : Expr → Arguments → Arguments

-- an operator and the operand after it
pub record Operation : Type 0 where
  pub operator : BinaryOperator
  pub pos : Pos
  pub operand : Expr

abbrev pub members_of : List Operation → Members
members_of [] = end
members_of (x ∷ xs) = more x.operator x.pos x.operand (members_of xs)

abbrev pub arguments_of : List Expr → Arguments
arguments_of [] = no_more
arguments_of (x ∷ xs) = argument x (arguments_of xs)

-- one node, with its parts as they are seen
abbrev pub expr_step : Expr-F Expr Operation → Expr
expr_step (Expr-F.Number literal) = Number literal
expr_step (Expr-F.Character code pos) = Character code pos
expr_step (Expr-F.Truth value pos) = Truth value pos
expr_step (Expr-F.Name name) = Name name
expr_step (Expr-F.Parentheses pos inner) = Parentheses pos inner.value
expr_step (Expr-F.Call callee arguments) = Call callee.value (arguments_of arguments.items)
expr_step (Expr-F.Unary operator pos operand) = Unary operator pos operand.value
expr_step (Expr-F.Cast operand types) = Cast operand.value types.items
expr_step (Expr-F.Operations first rest) = Operations first.value (members_of rest.items)
expr_step (Expr-F.Leading operations) = Leading (members_of operations.items)

abbrev pub operation_step : Operation-F Expr Operation → Operation
operation_step x = record { operator = x.operator; pos = x.pos; operand = x.operand }

-- the code's expressions, without where they lie in memory
abbrev pub expr_of : declared.Expr → Expr
expr_of = fold-Expr Expr Operation expr_step operation_step

abbrev pub operation_of : declared_operation.Operation → Operation
operation_of = fold-Operation Expr Operation expr_step operation_step
