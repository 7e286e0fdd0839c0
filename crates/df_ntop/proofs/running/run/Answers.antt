use Rattle.std.proofs.Common.{refl, ap}
use Rattle.df_lang.specs.View.{program_of}
use Rattle.df_ncmd.specs.View.{command_of}
use Rattle.df_nmach.specs.View.{code_of}
use Rattle.df_ntop.specs.Call.{stream, streams}
use Rattle.df_ntop.specs.Command.{budget_of, compiles, puts_report, runs}
use Rattle.df_ntop.specs.View.{log_file_of}
use Rattle.df_ntop.proofs.Programs.{all_correct, main_ends, ready_to_run}
use Rattle.df_ntop.proofs.running.run.Goals as goal

pub compiled-requires-clause-compiles : goal.compiled-requires-clause-compiles
compiled-requires-clause-compiles g c = ap compiles c.requires.run

pub entered-requires-clause-runs : goal.entered-requires-clause-runs
entered-requires-clause-runs g c = ap runs c.requires.run

pub proved-requires-clause-puts : goal.proved-requires-clause-puts
proved-requires-clause-puts g c = ap puts_report c.requires.run

pub proved-requires-clause-ready : goal.proved-requires-clause-ready
proved-requires-clause-ready g c = ready_to_run (program_of c.args.program.now.program) (command_of c.args.command.now) c.in-Ok-entered.number c.in-Ok.ensures.native c.in-Ok-entered.ensures.entry

pub returns-in-Err-clause-ends : goal.returns-in-Err-clause-ends
returns-in-Err-clause-ends g c = c.in-Err.ensures.ends (log_file_of c.args.log.now) (streams g.O.Sink c.args.out.now c.args.out.now g.E.Sink c.args.err.now c.args.err.now) (refl, refl)

pub returns-in-Err-entered-clause-ends : goal.returns-in-Err-entered-clause-ends
returns-in-Err-entered-clause-ends g c = c.in-Err-entered.ensures.ends (log_file_of c.args.log.now) (streams g.O.Sink c.args.out.now c.args.out.now g.E.Sink c.args.err.now c.args.err.now) (refl, refl)

pub run_entry-requires-clause-correct : goal.run_entry-requires-clause-correct
run_entry-requires-clause-correct g c = all_correct (program_of c.args.program.now.program) (budget_of (command_of c.args.command.now)) c.in-Ok-proved.ensures.proved

pub returns-in-Ok-proved-clause-ends : goal.returns-in-Ok-proved-clause-ends
returns-in-Ok-proved-clause-ends g c =
    let s = streams g.O.Sink c.args.out.now c.run_entry.new.out g.E.Sink c.args.err.now c.proved.new.err in
    let ended = c.run_entry.ensures.runs in
    main_ends (program_of c.args.program.now.program) (log_file_of c.args.log.now) s (command_of c.args.command.now) c.args.fuel c.in-Ok-entered.number (code_of c.in-Ok.code) ended.ran c.run_entry.result c.requires.run ended.end_is
    (record { proved = c.in-Ok-proved.ensures.proved; native = c.in-Ok.ensures.native; compiled = c.in-Ok.ensures.compiled }) c.in-Ok-proved.ensures.proves ended.runs ended.rose (ap g.E.Sink.taken c.in-Ok-proved.ensures.silent)

pub returns-clause-ends : goal.returns-clause-ends
returns-clause-ends g c = c.in-Err-proved.ensures.ends (stream g.O.Sink c.args.out.now c.args.out.now) refl
