use Rattle.std.proofs.Common.{inl, refl}
use Rattle.df_base.specs.declared.status.Status.TheVariants as statuses
use Rattle.df_lang.specs.View.{program_of}
use Rattle.df_ncmd.specs.View.{command_of}
use Rattle.df_ntop.specs.Ending.{of_program}
use Rattle.df_ntop.proofs.Knowing.{told_ends, not_native_tells}
use Rattle.df_ntop.proofs.running.compiled.Goals as goal

pub returns-in-Err-NotNative-clause-ends : goal.returns-in-Err-NotNative-clause-ends
returns-in-Err-NotNative-clause-ends c = λ log s quiet.
    let program = program_of c.args.program.now.program in
    let command = command_of c.args.command.now in
    let first = c.in-Err-NotNative.ensures.first c.in-Err-NotNative.pos c.in-Err-NotNative.rule (rw c.in-Err-NotNative.field-0-is refl) in
    told_ends (of_program command log program) s statuses.NotCompilable _ c.native_text.result c.told.result quiet
    (not_native_tells program command log c.file.result.now c.in-Err-NotNative.rule c.in-Err-NotNative.pos c.file.ensures c.requires.compiles first) c.native_text.ensures c.told.ensures

pub returns-in-Err-Memory-clause-ends : goal.returns-in-Err-Memory-clause-ends
returns-in-Err-Memory-clause-ends c = λ log s quiet. inl quiet
