use Rattle.std.proofs.Common.{◌≡◌, ◌++◌, map, drop}
use Rattle.df_lang.specs.DeclView.{param_of}
use Rattle.df_ntyping.specs.Laws.{HaveTexts}
use Rattle.df_ntdecl.specs.mirror.Declarations.{params_in}
use Rattle.df_ntdecl.proofs.methods.params.Given as goal

abbrev pub invariant-loop-parameter : goal.invariant-loop-parameter
invariant-loop-parameter l =
    (HaveTexts l.names (drop l.parameter-index l.all))
    × (map param_of l.params.items ++ params_in l.names l.table (drop l.parameter-index l.all) ≡ params_in l.names l.table l.all)
