use Rattle.std.proofs.Common.{◌≡◌, ◌++◌, map, take}
use Rattle.std.specs.List.{flat_map}
use Rattle.df_report.specs.Report.{failure_text}
use Rattle.df_report.specs.View.{failure_of}
use Rattle.df_report.proofs.report.push_failures.Given as goal

abbrev pub invariant-loop-failure : goal.invariant-loop-failure
invariant-loop-failure l = l.text.items ≡ l.initial.text.items ++ flat_map failure_text (map failure_of (take l.failure-index l.failures))
