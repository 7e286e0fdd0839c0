-- E3: `+ - * / %` and the sign `-` take operands of one integer type, where `nat` counts as `int`. E18: `as` goes between
-- integer types, and between them and `char`.
use Rattle.std.specs.Prelude.{Bool, false, not, ◌&&◌, Some}
use Rattle.df_ntree.specs.Operator.{group_of}
use Rattle.df_ntyping.specs.Types.{is_integer, are_one_integer, casts, if_known, if_type_known}
use Rattle.df_ntyping.specs.Environment.{Environment}
use Rattle.df_ntyping.specs.ExprTypes.{is_arithmetic}
use Rattle.df_ntyping.specs.Node.{Node, Minus, Sign, Conversion}

abbrev pub breaks_arithmetic : Environment → Node → Bool
breaks_arithmetic env (Minus operand pos) = not (if_type_known is_integer operand)
breaks_arithmetic env (Sign left operator pos right) = is_arithmetic (Some (group_of operator)) && not (if_known are_one_integer left right)
breaks_arithmetic env node = false

abbrev pub breaks_casts : Environment → Node → Bool
breaks_casts env (Conversion source target pos) = not (if_known casts source target)
breaks_casts env node = false
