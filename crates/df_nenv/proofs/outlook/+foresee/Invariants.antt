use Rattle.std.proofs.Common.{◌≡◌, map, drop}
use Rattle.df_ntree.specs.Expr.{operation_of, members_of}
use Rattle.df_nenv.specs.Outlooks.{joined_all}
use Rattle.df_nenv.proofs.outlook.+foresee.Given as goal

-- with the operands that are left joined, all are
abbrev pub invariant-joined_all-loop-operation : goal.invariant-joined_all-loop-operation
invariant-joined_all-loop-operation l =
    joined_all l.env l.so_far (members_of (map operation_of (drop l.operation-index l.operation-items))) ≡ joined_all l.fn.env l.fn.so_far (members_of (map operation_of l.operation-items))
