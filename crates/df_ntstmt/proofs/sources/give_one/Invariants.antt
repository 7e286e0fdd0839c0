use Rattle.std.proofs.Common.{◌≡◌, map, drop}
use Rattle.std.specs.List.{list_all}
use Rattle.df_ntree.specs.Expr.{expr_of}
use Rattle.df_ntyping.specs.LocalTypes.{is_count, values_of}
use Rattle.df_ntstmt.proofs.sources.give_one.Given as goal

abbrev pub invariant-loop-e : goal.invariant-loop-e
invariant-loop-e l =
    list_all (λ value. is_count 1 (values_of l.env value)) (map expr_of (drop l.e-index l.values)) ≡ list_all (λ value. is_count 1 (values_of l.env value)) (map expr_of l.values)
