use Rattle.std.proofs.Common.{map, inl, refl}
use Rattle.df_base.specs.declared.status.Status.TheVariants as statuses
use Rattle.df_lang.specs.View.{program_of}
use Rattle.df_ncmd.specs.View.{command_of}
use Rattle.df_report.specs.View.{outcome_of}
use Rattle.df_ntop.specs.Ending.{of_program}
use Rattle.df_ntop.specs.Loaded.{Log}
use Rattle.df_ntop.proofs.Checked.{is_verdict}
use Rattle.df_ntop.proofs.Knowing.{told_ends, not_a_log_tells, bad_part_tells}
use Rattle.df_ntop.proofs.checking.check_bytes.Goals as goal

pub returns-in-Ok-clause-verdict : goal.returns-in-Ok-clause-verdict
returns-in-Ok-clause-verdict c = λ budget.
    is_verdict (program_of c.args.program.now.program) c.args.bytes.now (map outcome_of c.in-Ok.outcomes.items) budget c.in-Ok.ensures.checked c.in-Ok.ensures.correct

pub returns-in-Ok-clause-verified : goal.returns-in-Ok-clause-verified
returns-in-Ok-clause-verified c = c.in-Ok.ensures.checked.verified

pub returns-in-Ok-clause-proves : goal.returns-in-Ok-clause-proves
returns-in-Ok-clause-proves c = c.in-Ok.ensures.checked.proves

pub returns-in-Err-NotALog-clause-ends : goal.returns-in-Err-NotALog-clause-ends
returns-in-Err-NotALog-clause-ends c = λ s quiet.
    let program = program_of c.args.program.now.program in
    let command = command_of c.args.command.now in
    let bytes = c.args.bytes.now in
    told_ends (of_program command (Log bytes) program) s statuses.BadLog _ c.not_a_log_text.result c.told.result quiet
    (not_a_log_tells program command (Log bytes) c.log_name.result.now bytes c.in-Err-NotALog.line c.log_name.ensures c.requires.ready refl (rw c.in-Err-NotALog.field-0-is at c.in-Err-NotALog.ensures.refused)) c.not_a_log_text.ensures c.told.ensures

pub returns-in-Err-Refused-clause-ends : goal.returns-in-Err-Refused-clause-ends
returns-in-Err-Refused-clause-ends c = λ s quiet.
    let program = program_of c.args.program.now.program in
    let command = command_of c.args.command.now in
    let bytes = c.args.bytes.now in
    told_ends (of_program command (Log bytes) program) s statuses.BadLog _ c.bad_part_text.result c.told-in-Err-Refused.result quiet
    (bad_part_tells program command (Log bytes) c.log_name-in-Err-Refused.result.now bytes c.in-Err-Refused.obligation c.in-Err-Refused.step c.log_name-in-Err-Refused.ensures c.requires.ready refl (rw c.in-Err-Refused.field-0-is at c.in-Err-Refused.ensures.refused)) c.bad_part_text.ensures c.told-in-Err-Refused.ensures

pub returns-in-Err-Memory-clause-ends : goal.returns-in-Err-Memory-clause-ends
returns-in-Err-Memory-clause-ends c = λ s quiet. inl quiet
