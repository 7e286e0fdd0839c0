use Rattle.std.proofs.Common.{map, refl, sym, subst, ◌∙◌}
use Rattle.df_lang.specs.View.{program_of}
use Rattle.df_ncmd.specs.View.{command_of}
use Rattle.df_report.specs.View.{outcome_of}
use Rattle.df_ntop.specs.Answer.{ProvesBy}
use Rattle.df_ntop.specs.Call.{stream}
use Rattle.df_ntop.specs.Command.{log_of, budget_of}
use Rattle.df_ntop.specs.Loaded.{LogFile}
use Rattle.df_ntop.specs.View.{log_file_of}
use Rattle.df_ntop.proofs.Checked.{is_proved}
use Rattle.df_ntop.proofs.Loads.{no_log, some_log, absent_log}
use Rattle.df_ntop.proofs.running.proved.Goals as goal

pub searched-requires-clause-unlogged : goal.searched-requires-clause-unlogged
searched-requires-clause-unlogged g c =
    no_log (log_of (command_of c.args.command.now)) (log_file_of c.args.log.now) c.requires.named (sym c.is_absent.ensures ∙ c.if-is_absent.true)

pub returns-in-Ok-clause-proves : goal.returns-in-Ok-clause-proves
returns-in-Ok-clause-proves g c =
    subst (λ (l : LogFile). ProvesBy (program_of c.args.program.now.program) l) (sym (absent_log (log_file_of c.args.log.now) (sym c.is_absent.ensures ∙ c.if-is_absent.true))) tt

pub returns-in-Err-clause-ends : goal.returns-in-Err-clause-ends
returns-in-Err-clause-ends g c = λ out silent. c.in-Err.ensures.ends (log_file_of c.args.log.now) out silent

pub check_log-requires-clause-there : goal.check_log-requires-clause-there
check_log-requires-clause-there g c =
    some_log (log_of (command_of c.args.command.now)) (log_file_of c.args.log.now) c.requires.named (sym c.is_absent.ensures ∙ c.if-is_absent.false)

pub returns-in-Ok-check_log-clause-proved : goal.returns-in-Ok-check_log-clause-proved
returns-in-Ok-check_log-clause-proved g c =
    let budget = budget_of (command_of c.args.command.now) in
    is_proved (program_of c.args.program.now.program) budget (map outcome_of c.in-Ok-check_log.field-0.items) (c.in-Ok-check_log.ensures.verdict budget) c.in-Ok-check_log.ensures.verified

pub returns-in-Ok-check_log-clause-proves : goal.returns-in-Ok-check_log-clause-proves
returns-in-Ok-check_log-clause-proves g c = c.in-Ok-check_log.ensures.proves

pub returns-clause-ends : goal.returns-clause-ends
returns-clause-ends g c = λ out silent. c.in-Err-check_log.ensures.ends (record { out = out; err = stream g.E.Sink c.args.err.now c.args.err.now }) (silent, refl)
