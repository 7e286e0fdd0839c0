use Rattle.std.proofs.Common.{◌≡◌, ◌++◌, map, take}
use Rattle.std.specs.List.{flat_map}
use Rattle.df_report.specs.Report.{parameter_text}
use Rattle.df_report.specs.View.{parameter_of}
use Rattle.df_report.proofs.report.push_parameters.Given as goal

abbrev pub invariant-loop-parameter : goal.invariant-loop-parameter
invariant-loop-parameter l = l.text.items ≡ l.initial.text.items ++ flat_map parameter_text (map parameter_of (take l.parameter-index l.parameters))
