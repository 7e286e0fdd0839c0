use Rattle.std.proofs.Common.{◌≡◌, ◌++◌, map, drop}
use Rattle.df_ntree.specs.Expr.{expr_of}
use Rattle.df_ntyping.specs.LocalTypes.{next_type, types_of_value}
use Rattle.df_ninfer.proofs.inference.first_types.Given as goal

abbrev pub invariant-loop-e : goal.invariant-loop-e
invariant-loop-e l =
    l.types.items ++ map (λ value. next_type (types_of_value l.env value)) (map expr_of (drop l.e-index l.values)) ≡ map (λ value. next_type (types_of_value l.env value)) (map expr_of l.values)
