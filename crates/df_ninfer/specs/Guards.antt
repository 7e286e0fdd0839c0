-- Operands that may be integers: what private contracts cite.
use Rattle.std.specs.Prelude.{Bool, ◌||◌, ◌&&◌}
use Rattle.df_ntree.specs.Expr.{Expr, Operation}
use Rattle.df_ntyping.specs.Types.{is_integer, if_type_known, is_order}
use Rattle.df_ntyping.specs.Environment.{Environment}
use Rattle.df_ntyping.specs.ExprTypes.{is_open, own_type}

-- what is made of literals alone is one
abbrev pub may_be_integer : Environment → Expr → Bool
may_be_integer env e = is_open e || if_type_known is_integer (own_type env e)

-- an operation that compares integers by order
abbrev pub compares : Environment → Expr → Operation → Bool
compares env first operation = is_order operation.operator && may_be_integer env first && may_be_integer env operation.operand
