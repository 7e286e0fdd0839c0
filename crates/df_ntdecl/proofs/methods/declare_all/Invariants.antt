use Rattle.std.proofs.Common.{◌≡◌, ◌++◌, drop}
use Rattle.df_ntyping.specs.Environment.{Parameter_role, with_types, declare_parameters}
use Rattle.df_ntyping.specs.LocalTypes.{fixed_by}
use Rattle.df_ntdecl.proofs.methods.declare_all.Given as goal

abbrev pub invariant-loop-parameter : goal.invariant-loop-parameter
invariant-loop-parameter l =
    with_types (declare_parameters l.env Parameter_role (drop l.parameter-index l.all)) (l.env.types ++ fixed_by l.env (drop l.parameter-index l.all)) ≡ with_types (declare_parameters l.fn.env Parameter_role l.all) (l.fn.env.types ++ fixed_by l.fn.env l.all)
