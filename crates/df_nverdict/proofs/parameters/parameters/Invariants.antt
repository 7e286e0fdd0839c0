use Rattle.std.proofs.Common.{◌≡◌, ◌++◌, map, drop}
use Rattle.df_lang.specs.DeclView.{param_of}
use Rattle.df_report.specs.View.{parameter_of}
use Rattle.df_nverdict.specs.Verdict.{numbers_of}
use Rattle.df_nverdict.proofs.parameters.parameters.Given as goal

-- those so far, in front of those of what is left, are those of all
abbrev pub invariant-loop-number : goal.invariant-loop-number
invariant-loop-number l = map parameter_of l.parameters.items ++ numbers_of l.nodes l.table l.number (map param_of (drop l.number l.params)) ≡ numbers_of l.nodes l.table 0 (map param_of l.params)
