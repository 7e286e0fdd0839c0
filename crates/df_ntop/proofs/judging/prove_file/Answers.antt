use Rattle.std.proofs.Common.{ap, inl, refl}
use Rattle.df_lang.specs.View.{program_of}
use Rattle.df_ncmd.specs.View.{command_of}
use Rattle.df_ntop.specs.Call.{streams}
use Rattle.df_ntop.specs.Command.{budget_of, log_of, puts_report}
use Rattle.df_ntop.proofs.Limits.{steps_are_some}
use Rattle.df_ntop.proofs.Programs.{logs_end, failing_ends, ready_to_prove}
use Rattle.df_ntop.proofs.judging.prove_file.Goals as goal

pub prove_with_logs-requires-clause-steps : goal.prove_with_logs-requires-clause-steps
prove_with_logs-requires-clause-steps g c = steps_are_some c.budget.result (budget_of (command_of c.args.command.now)) c.budget.ensures c.requires.budget

pub returns-in-Ok-Logs-clause-ends : goal.returns-in-Ok-Logs-clause-ends
returns-in-Ok-Logs-clause-ends g c = λ log.
    let s = streams g.O.Sink c.args.out.now c.put_logs.new.sink g.E.Sink c.args.err.now c.args.err.now in
    logs_end (program_of c.args.program.now.program) log s (command_of c.args.command.now) c.as_slice.result.now c.put_logs.result c.requires.prove
    (rw c.as_slice.ensures.value (rw c.in-Ok-Logs.field-0-is at c.in-Ok-Logs.ensures)) c.put_logs.ensures.puts refl

pub returns-in-Ok-Failure-clause-ends : goal.returns-in-Ok-Failure-clause-ends
returns-in-Ok-Failure-clause-ends g c = λ log.
    let program = program_of c.args.program.now.program in
    let command = command_of c.args.command.now in
    let s = streams g.O.Sink c.args.out.now c.args.out.now g.E.Sink c.args.err.now c.put_report.new.sink in
    let report = c.in-Ok-Failure.report in
    let told = rw c.in-Ok-Failure.field-0-is at c.in-Ok-Failure.ensures in
    failing_ends program log s command c.budget.result report.verified report.text.items c.put_report.result
    (ap puts_report c.requires.prove) (ap log_of c.requires.prove) c.budget.ensures told.1 told.0 (ready_to_prove program command c.requires.prove) c.put_report.ensures.puts refl

pub returns-in-Err-clause-ends : goal.returns-in-Err-clause-ends
returns-in-Err-clause-ends g c = λ log. inl (refl, refl)
