use Rattle.std.proofs.Common.{◌≡◌, map, drop}
use Rattle.df_ntree.specs.Expr.{operation_of, members_of}
use Rattle.df_ntyping.specs.Types.{falls, all_of}
use Rattle.df_ntexpr.proofs.signs.all_fall.Given as goal

abbrev pub invariant-loop-operation : goal.invariant-loop-operation
invariant-loop-operation l = all_of falls (members_of (map operation_of (drop l.operation-index l.rest))) ≡ all_of falls (members_of (map operation_of l.rest))
