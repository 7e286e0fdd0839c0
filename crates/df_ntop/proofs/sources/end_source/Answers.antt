use Rattle.std.proofs.Common.{refl}
use Rattle.df_base.specs.declared.status.Status.TheVariants as statuses
use Rattle.df_ncmd.specs.View.{command_of}
use Rattle.df_lang.specs.View.{program_of}
use Rattle.df_nfront.specs.Refused.{IsRefused}
use Rattle.df_ntop.specs.Call.{streams}
use Rattle.df_ntop.specs.Ending.{of_source}
use Rattle.df_ntop.specs.View.{log_file_of}
use Rattle.df_ntop.proofs.Knowing.{told_ends, refusal_is, refused_tells, source_ends}
use Rattle.df_ntop.proofs.TypeNames.{have_type_names}
use Rattle.df_ntop.proofs.sources.end_source.Goals as goal

pub returns-in-Ok-read-clause-ends : goal.returns-in-Ok-read-clause-ends
returns-in-Ok-read-clause-ends g c =
    source_ends (command_of c.args.command.now) (log_file_of c.args.log.now) c.args.source.now (program_of c.in-Ok-read.program.program) _ c.end_program.result c.in-Ok-read.ensures.lawful c.end_program.ensures.ends

pub returns-in-Err-Refused-clause-ends : goal.returns-in-Err-Refused-clause-ends
returns-in-Err-Refused-clause-ends g c =
    let command = command_of c.args.command.now in
    let log = log_file_of c.args.log.now in
    let s = streams g.O.Sink c.args.out.now c.args.out.now g.E.Sink c.args.err.now c.args.err.now in
    told_ends (of_source command log c.args.source.now) s statuses.Refused _ c.refusal_line.result c.told.result (refl, refl)
    (refused_tells c.args.source.now command log c.file.result.now c.read.new.names c.in-Err-Refused.refusal c.file.ensures (refusal_is (IsRefused c.args.source.now c.read.new.names) c.in-Err-Refused.field-0 c.in-Err-Refused.refusal c.in-Err-Refused.field-0-is c.in-Err-Refused.ensures.refused)) c.refusal_line.ensures c.told.ensures

pub end_program-requires-clause-names : goal.end_program-requires-clause-names
end_program-requires-clause-names g c =
    let program = program_of c.in-Ok-read.program.program in
    let lawful = c.in-Ok-read.ensures.lawful in
    record {
      methods = c.methods_by_number_have_names.ensures program (c.methods_have_names.ensures c.args.source.now program lawful);
      types = have_type_names program (c.declarations_have_names.ensures c.args.source.now program lawful);
    }
