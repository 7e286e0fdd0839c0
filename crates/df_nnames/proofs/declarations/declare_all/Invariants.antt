use Rattle.std.proofs.Common.{◌≡◌, drop}
use Rattle.df_nnames.specs.Faults.{with_parameters}
use Rattle.df_nnames.proofs.declarations.declare_all.Given as goal

abbrev pub invariant-loop-parameter : goal.invariant-loop-parameter
invariant-loop-parameter l = with_parameters l.scope (drop l.parameter-index l.all) ≡ with_parameters l.fn.scope l.all
