-- The code's outcomes, without where they lie in memory.
use Rattle.std.specs.Prelude.{map, string_bytes}
use Rattle.df_report.specs.declared.outcome.Parameter as declared_parameter
use Rattle.df_report.specs.declared.outcome.Failure as declared_failure
use Rattle.df_report.specs.declared.outcome.Outcome as declared
use Rattle.df_report.specs.Report.{Parameter, Failure, Outcome}

abbrev pub parameter_of : declared_parameter.Parameter → Parameter
parameter_of p = record { name = string_bytes p.name; value = p.value }

abbrev pub failure_of : declared_failure.Failure → Failure
failure_of f = record { line = f.pos.line; col = f.pos.col; kind = string_bytes f.kind; evidence = f.evidence; parameters = map parameter_of f.parameters.items }

abbrev pub outcome_of : declared.Outcome → Outcome
outcome_of o = record { name = string_bytes o.name; failures = map failure_of o.failures.items }
