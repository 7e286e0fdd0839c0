use Rattle.std.proofs.Common.{ap}
use Rattle.df_base.specs.declared.status.Status.TheVariants as statuses
use Rattle.df_lang.specs.View.{program_of}
use Rattle.df_ncmd.specs.View.{command_of}
use Rattle.df_ntop.specs.Command.{log_of}
use Rattle.df_ntop.specs.Ending.{of_program}
use Rattle.df_ntop.specs.View.{log_file_of}
use Rattle.df_ntop.proofs.Knowing.{told_ends, too_large_tells}
use Rattle.df_ntop.proofs.Loads.{not_named_absent}
use Rattle.df_ntop.proofs.checking.check_log.Goals as goal

pub returns-in-Ok-clause-proves : goal.returns-in-Ok-clause-proves
returns-in-Ok-clause-proves c = rw (c.in-Bytes.is) (rw c.as_slice.ensures at c.in-Ok.ensures.proves)

pub returns-in-Err-clause-ends : goal.returns-in-Err-clause-ends
returns-in-Err-clause-ends c = rw (c.in-Bytes.is) (rw c.as_slice.ensures at c.in-Err.ensures.ends)

pub returns-in-TooLarge-clause-ends : goal.returns-in-TooLarge-clause-ends
returns-in-TooLarge-clause-ends c = λ s quiet.
    let program = program_of c.args.program.now.program in
    let command = command_of c.args.command.now in
    let log = log_file_of c.args.log.now in
    told_ends (of_program command log program) s statuses.BadLog _ c.too_large_text.result c.told.result quiet
    (too_large_tells program command log c.log_name.result.now c.log_name.ensures c.requires.ready (ap log_file_of c.in-TooLarge.is)) c.too_large_text.ensures c.told.ensures

pub unreachable-requires : goal.unreachable-requires
unreachable-requires c =
    not_named_absent (log_of (command_of c.args.command.now)) (log_file_of c.args.log.now) c.requires.named c.requires.there (ap log_file_of c.in-Absent.is)
