use Rattle.std.proofs.Common.{◌≡◌, drop}
use Rattle.df_ntyping.specs.Environment.{declare_variables}
use Rattle.df_ntstmt.proofs.statements.declare_all.Given as goal

abbrev pub invariant-loop-local : goal.invariant-loop-local
invariant-loop-local l =
    declare_variables l.env (drop l.local-index l.locals) ≡ declare_variables l.fn.env l.locals
