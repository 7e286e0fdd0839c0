use Rattle.std.proofs.Common.{◌≡◌, drop, map}
use Rattle.df_ntree.specs.Expr.{expr_of, operation_of, members_of, arguments_of}
use Rattle.df_nnames.specs.Faults.{member_faults, argument_faults}
use Rattle.df_nnames.specs.Meanings.{meanings_of}
use Rattle.df_nnames.proofs.expressions.+expr.Given as goal

abbrev pub invariant-operations-loop-operation : goal.invariant-operations-loop-operation
invariant-operations-loop-operation l =
    member_faults (meanings_of l.globals) l.scope (members_of (map operation_of (drop l.operation-index l.operation-items))) ≡ member_faults (meanings_of l.globals) l.scope (members_of (map operation_of l.operation-items))

abbrev pub invariant-arguments-loop-argument : goal.invariant-arguments-loop-argument
invariant-arguments-loop-argument l =
    argument_faults (meanings_of l.globals) l.scope (arguments_of (map expr_of (drop l.argument-index l.argument-items))) ≡ argument_faults (meanings_of l.globals) l.scope (arguments_of (map expr_of l.argument-items))
