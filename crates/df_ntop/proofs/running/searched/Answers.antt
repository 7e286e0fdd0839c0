use Rattle.std.proofs.Common.{inl, refl}
use Rattle.df_lang.specs.View.{program_of}
use Rattle.df_ncmd.specs.View.{command_of}
use Rattle.df_ntop.specs.Call.{stream}
use Rattle.df_ntop.specs.Command.{budget_of}
use Rattle.df_ntop.proofs.Limits.{steps_are_some}
use Rattle.df_ntop.proofs.Programs.{all_proved, failing_ends}
use Rattle.df_ntop.proofs.running.searched.Goals as goal

pub prove-requires : goal.prove-requires
prove-requires g c = steps_are_some c.budget.result (budget_of (command_of c.args.command.now)) c.budget.ensures c.requires.budget

pub returns-clause-proved : goal.returns-clause-proved
returns-clause-proved g c =
    all_proved (program_of c.args.program.now.program) c.budget.result (budget_of (command_of c.args.command.now)) c.in-Ok.report.verified c.in-Ok.report.text.items c.budget.ensures c.if-not-report.false c.in-Ok.ensures.report

pub returns-then-not-report-clause-ends : goal.returns-then-not-report-clause-ends
returns-then-not-report-clause-ends g c = λ log out silent.
    failing_ends (program_of c.args.program.now.program) log (record { out = out; err = stream g.E.Sink c.args.err.now c.put_report.new.sink }) (command_of c.args.command.now) c.budget.result c.in-Ok.report.verified c.in-Ok.report.text.items c.put_report.result
    c.requires.puts c.requires.unlogged c.budget.ensures c.in-Ok.ensures.report c.if-not-report.true c.requires.ready c.put_report.ensures.puts silent

pub returns-in_default-clause-ends : goal.returns-in_default-clause-ends
returns-in_default-clause-ends g c = λ log out silent. inl (silent, refl)
