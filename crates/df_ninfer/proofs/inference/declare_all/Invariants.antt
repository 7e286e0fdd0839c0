use Rattle.std.proofs.Common.{◌≡◌, ◌++◌, drop}
use Rattle.df_ntyping.specs.Environment.{declare_variables}
use Rattle.df_ntyping.specs.LocalTypes.{over}
use Rattle.df_ninfer.specs.Marks.{inferred_all_by}
use Rattle.df_ninfer.proofs.inference.declare_all.Given as goal

abbrev pub invariant-loop-i : goal.invariant-loop-i
invariant-loop-i l =
    over (declare_variables l.env (drop l.i l.locals)) (l.env.types ++ inferred_all_by l.env (drop l.i l.locals) l.has_values (drop l.i l.types)) ≡ over (declare_variables l.fn.env l.locals) (l.fn.env.types ++ inferred_all_by l.fn.env l.locals l.has_values l.types)
