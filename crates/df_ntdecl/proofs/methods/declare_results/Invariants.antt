use Rattle.std.proofs.Common.{◌≡◌, ◌++◌, drop}
use Rattle.df_ntyping.specs.Environment.{with_types}
use Rattle.df_ntyping.specs.LocalTypes.{fixed_by}
use Rattle.df_ntdecl.specs.Results.{declare_results}
use Rattle.df_ntdecl.proofs.methods.declare_results.Given as goal

abbrev pub invariant-loop-result : goal.invariant-loop-result
invariant-loop-result l =
    with_types (declare_results l.env (drop l.result-index l.all)) (l.env.types ++ fixed_by l.env (drop l.result-index l.all)) ≡ with_types (declare_results l.fn.env l.all) (l.fn.env.types ++ fixed_by l.fn.env l.all)
