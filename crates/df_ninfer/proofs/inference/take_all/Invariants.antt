use Rattle.std.proofs.Common.{◌≡◌, map, drop}
use Rattle.df_ntree.specs.Expr.{expr_of}
use Rattle.df_ninfer.specs.Marks.{took}
use Rattle.df_ninfer.proofs.inference.take_all.Given as goal

abbrev pub invariant-loop-i : goal.invariant-loop-i
invariant-loop-i l =
    took l.env (map expr_of (drop l.i l.targets)) (drop l.i l.types) ≡ took l.fn.env (map expr_of l.targets) l.types
