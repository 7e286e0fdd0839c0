use Rattle.std.proofs.Common.{◌≡◌, ◌++◌, map, take}
use Rattle.std.specs.List.{flat_map}
use Rattle.df_report.specs.Report.{outcome_text}
use Rattle.df_report.specs.View.{outcome_of}
use Rattle.df_report.proofs.report.push_outcomes.Given as goal

abbrev pub invariant-loop-outcome : goal.invariant-loop-outcome
invariant-loop-outcome l = l.text.items ≡ l.initial.text.items ++ flat_map outcome_text (map outcome_of (take l.outcome-index l.outcomes))
