use Rattle.std.proofs.Common.{◌≡◌, map, drop, Some}
use Rattle.df_ntree.specs.Expr.{expr_of, operation_of, members_of, arguments_of}
use Rattle.df_ntexpr.specs.Parts.{row_of}
use Rattle.df_ntyping.specs.mirror.Looking.{behind_rows, look_rows, look_arguments}
use Rattle.df_ntexpr.proofs.looking.+looking.Given as goal

-- the rows so far, and those of the operations that are left, are those of all
abbrev pub invariant-rows-loop-i : goal.invariant-rows-loop-i
invariant-rows-loop-i l =
    behind_rows (map row_of l.rows.items) (look_rows l.env l.group l.left (members_of (map operation_of (drop l.i l.rest)))) ≡ look_rows l.env l.group l.fn.left (members_of (map operation_of l.rest))

-- what the arguments that are left break is what all break
abbrev pub invariant-arguments-loop-i : goal.invariant-arguments-loop-i
invariant-arguments-loop-i l =
    look_arguments l.env (map Some (drop l.i l.places)) (arguments_of (map expr_of (drop l.i l.all))) ≡ look_arguments l.env (map Some l.places) (arguments_of (map expr_of l.all))
