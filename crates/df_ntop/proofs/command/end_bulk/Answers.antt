use Rattle.std.proofs.Common.{ap, inl, refl, ◌∙◌}
use Rattle.df_gen.specs.GeneratedSource.{generated_source}
use Rattle.df_ncmd.specs.View.{command_of}
use Rattle.df_ntop.specs.Call.{streams}
use Rattle.df_ntop.specs.Loaded.{NoLog}
use Rattle.df_ntop.proofs.Knowing.{files_ends}
use Rattle.df_ntop.proofs.Limits.{limits_of, count_fits}
use Rattle.df_ntop.proofs.Loads.{bulk_source, bulk_log, bulk_named}
use Rattle.df_ntop.proofs.command.end_bulk.Goals as goal

pub narrow-requires : goal.narrow-requires
narrow-requires g c = count_fits (command_of c.args.command.now) c.args.seed c.args.count c.requires.bulk c.requires.limits

pub end_source-requires-clause-budget : goal.end_source-requires-clause-budget
end_source-requires-clause-budget g c = limits_of (command_of c.args.command.now) c.requires.limits

pub end_source-requires-clause-named : goal.end_source-requires-clause-named
end_source-requires-clause-named g c = bulk_named (command_of c.args.command.now) c.args.seed c.args.count c.requires.bulk

pub returns-in-Ok-clause-ends : goal.returns-in-Ok-clause-ends
returns-in-Ok-clause-ends g c = λ files.
    let command = command_of c.args.command.now in
    let s = streams g.O.Sink c.args.out.now c.end_source.new.out g.E.Sink c.args.err.now c.end_source.new.err in
    let made = c.in-Ok.ensures ∙ ap (generated_source c.args.seed) c.narrow.ensures in
    files_ends command files NoLog c.in-Ok.source.items c.as_slice.result.now s c.end_source.result c.as_slice.ensures.value
    (bulk_source command files c.args.seed c.args.count c.in-Ok.source.items c.requires.bulk made) (bulk_log command files c.args.seed c.args.count c.requires.bulk) c.end_source.ensures.ends

pub returns-in-Err-clause-ends : goal.returns-in-Err-clause-ends
returns-in-Err-clause-ends g c = λ files. inl (refl, refl)
