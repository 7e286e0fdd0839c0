-- E7: operands of `! && || ==> <== <==>`, guards, conditions and contracts are truths.
use Rattle.std.specs.Prelude.{Bool, true, false, not, ◌&&◌, None}
use Rattle.df_lang.specs.declared.ty.Ty.{Ty}
use Rattle.df_lang.specs.declared.ty.Ty.TheVariants as types
use Rattle.df_lang.specs.Newtype.{same_type}
use Rattle.df_ntree.specs.declared.expr.BinaryOperator.{BinaryOperator}
use Rattle.df_ntree.specs.declared.expr.BinaryOperator.TheVariants as binary
use Rattle.df_ntyping.specs.Types.{if_type_known}
use Rattle.df_ntyping.specs.Environment.{Environment}
use Rattle.df_ntyping.specs.ExprTypes.{type_in}
use Rattle.df_ntyping.specs.Node.{Node, Negation, Sign, Condition}

abbrev pub is_logical : BinaryOperator → Bool
is_logical binary.And = true
is_logical binary.Or = true
is_logical binary.Implies = true
is_logical binary.Explies = true
is_logical binary.Iff = true
is_logical operator = false

abbrev pub is_truth : Ty → Bool
is_truth ty = same_type ty types.Bool

abbrev pub breaks_truths : Environment → Node → Bool
breaks_truths env (Negation operand pos) = not (if_type_known is_truth operand)
breaks_truths env (Sign left operator pos right) = is_logical operator && not (if_type_known is_truth left && if_type_known is_truth right)
breaks_truths env (Condition e) = not (if_type_known is_truth (type_in env None e))
breaks_truths env node = false
