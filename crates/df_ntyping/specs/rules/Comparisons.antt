-- E4: `< <= > >=` compare numbers of one integer type, where `nat` counts as `int`, or characters. E5: of `==` and `!=`
-- one side fits the other. E6: a chain has only `<`, `<=` and `==`, or only `>`, `>=` and `==`; `!=` stands alone.
use Rattle.std.specs.Prelude.{Bool, true, false, not, ◌&&◌, ◌||◌}
use Rattle.df_lang.specs.declared.ty.Ty.{Ty}
use Rattle.df_lang.specs.declared.ty.Ty.TheVariants as types
use Rattle.df_ntree.specs.declared.expr.BinaryOperator.{BinaryOperator}
use Rattle.df_ntree.specs.declared.expr.BinaryOperator.TheVariants as binary
use Rattle.df_ntyping.specs.Types.{fits, are_one_integer, if_known, is_order, keeps_direction}
use Rattle.df_ntyping.specs.Environment.{Environment}
use Rattle.df_ntyping.specs.Node.{Node, Sign, Chain}

abbrev pub is_equality : BinaryOperator → Bool
is_equality binary.Equal = true
is_equality binary.NotEqual = true
is_equality operator = false

abbrev pub are_ordered : Ty → Ty → Bool
are_ordered types.Char types.Char = true
are_ordered left right = are_one_integer left right

abbrev pub one_fits : Ty → Ty → Bool
one_fits left right = fits left right || fits right left

abbrev pub breaks_order : Environment → Node → Bool
breaks_order env (Sign left operator pos right) = is_order operator && not (if_known are_ordered left right)
breaks_order env node = false

abbrev pub breaks_equality : Environment → Node → Bool
breaks_equality env (Sign left operator pos right) = is_equality operator && not (if_known one_fits left right)
breaks_equality env node = false

abbrev pub breaks_direction : Environment → Node → Bool
breaks_direction env (Chain members) = not (keeps_direction members)
breaks_direction env node = false
