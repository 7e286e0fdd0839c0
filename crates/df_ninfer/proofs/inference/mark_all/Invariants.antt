use Rattle.std.proofs.Common.{◌≡◌, map, drop}
use Rattle.std.specs.List.{flat_map}
use Rattle.df_ntree.specs.Expr.{expr_of}
use Rattle.df_ntyping.specs.LocalTypes.{names_in}
use Rattle.df_ninfer.specs.Marks.{marked}
use Rattle.df_ninfer.proofs.inference.mark_all.Given as goal

-- with what is left marked, all is
abbrev pub invariant-loop-e : goal.invariant-loop-e
invariant-loop-e l =
    marked l.env (flat_map names_in (map expr_of (drop l.e-index l.all))) ≡ marked l.fn.env (flat_map names_in (map expr_of l.all))
