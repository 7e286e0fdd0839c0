use Rattle.std.proofs.Common.{◌≡◌, map, drop}
use Rattle.df_ntree.specs.Expr.{expr_of, operation_of, members_of, arguments_of}
use Rattle.df_ntyping.specs.LocalTypes.{names_in_members, names_in_arguments}
use Rattle.df_ninfer.specs.Marks.{marked}
use Rattle.df_ninfer.proofs.inference.+mark.Given as goal

-- with what is left marked, all is
abbrev pub invariant-mark_operations-loop-operation : goal.invariant-mark_operations-loop-operation
invariant-mark_operations-loop-operation l =
    marked l.env (names_in_members (members_of (map operation_of (drop l.operation-index l.operation-items)))) ≡ marked l.fn.env (names_in_members (members_of (map operation_of l.operation-items)))

abbrev pub invariant-mark_arguments-loop-e : goal.invariant-mark_arguments-loop-e
invariant-mark_arguments-loop-e l =
    marked l.env (names_in_arguments (arguments_of (map expr_of (drop l.e-index l.e-items)))) ≡ marked l.fn.env (names_in_arguments (arguments_of (map expr_of l.e-items)))
