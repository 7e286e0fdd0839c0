use Rattle.std.proofs.Common.{◌≡◌, map, drop, None}
use Rattle.df_ntree.specs.Expr.{operation_of, members_of}
use Rattle.df_ntyping.specs.Places.{last_sign}
use Rattle.df_nrules.proofs.places.last_sign.Given as goal

abbrev pub invariant-loop-operation : goal.invariant-loop-operation
invariant-loop-operation l = last_sign l.last (members_of (map operation_of (drop l.operation-index l.rest))) ≡ last_sign None (members_of (map operation_of l.rest))
