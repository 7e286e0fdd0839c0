use Rattle.std.proofs.Common.{refl}
use Rattle.df_base.specs.declared.status.Status.TheVariants as statuses
use Rattle.df_lang.specs.View.{program_of}
use Rattle.df_ncmd.specs.View.{command_of}
use Rattle.df_ntop.specs.Ending.{of_program}
use Rattle.df_ntop.proofs.Knowing.{told_ends, no_main_tells}
use Rattle.df_ntop.proofs.running.entered.Goals as goal

pub returns-in-None-clause-ends : goal.returns-in-None-clause-ends
returns-in-None-clause-ends c = λ log s quiet.
    let program = program_of c.args.program.now.program in
    let command = command_of c.args.command.now in
    told_ends (of_program command log program) s statuses.NoMain _ c.no_main_text.result c.told.result quiet
    (no_main_tells program command log c.file.result.now c.file.ensures c.requires.runs c.requires.native (c.in-None.ensures.none refl)) c.no_main_text.ensures c.told.ensures
