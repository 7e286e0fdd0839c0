use Rattle.std.proofs.Common.{inl, refl}
use Rattle.df_lang.specs.View.{program_of}
use Rattle.df_ncmd.specs.View.{command_of}
use Rattle.df_ntop.specs.Call.{stream}
use Rattle.df_ntop.specs.Command.{budget_of}
use Rattle.df_ntop.proofs.Limits.{steps_are_some}
use Rattle.df_ntop.proofs.Programs.{verify_ends}
use Rattle.df_ntop.proofs.judging.verify.Goals as goal

pub prove-requires : goal.prove-requires
prove-requires g c = steps_are_some c.budget.result (budget_of (command_of c.args.command.now)) c.budget.ensures c.requires.budget

pub returns-in-Ok-clause-ends : goal.returns-in-Ok-clause-ends
returns-in-Ok-clause-ends g c = λ log err silent.
    verify_ends (program_of c.args.program.now.program) log (record { out = stream g.O.Sink c.args.out.now c.put_report.new.sink; err = err }) (command_of c.args.command.now) c.budget.result c.in-Ok.report.verified c.in-Ok.report.text.items c.put_report.result c.requires.verify c.budget.ensures c.in-Ok.ensures.report c.put_report.ensures.puts silent

pub returns-in-Err-clause-ends : goal.returns-in-Err-clause-ends
returns-in-Err-clause-ends g c = λ log err silent. inl (refl, silent)
