use Rattle.std.proofs.Common.{refl, ap}
use Rattle.df_lang.specs.View.{program_of}
use Rattle.df_ncmd.specs.View.{command_of}
use Rattle.df_nmach.specs.View.{code_of}
use Rattle.df_ntop.specs.Call.{stream, streams}
use Rattle.df_ntop.specs.Command.{compiles, puts_report}
use Rattle.df_ntop.specs.View.{log_file_of}
use Rattle.df_ntop.proofs.Programs.{listing_ends, ready_to_build}
use Rattle.df_ntop.proofs.running.build.Goals as goal

pub compiled-requires-clause-compiles : goal.compiled-requires-clause-compiles
compiled-requires-clause-compiles g c = ap compiles c.requires.build

pub proved-requires-clause-puts : goal.proved-requires-clause-puts
proved-requires-clause-puts g c = ap puts_report c.requires.build

pub proved-requires-clause-ready : goal.proved-requires-clause-ready
proved-requires-clause-ready g c = ready_to_build (program_of c.args.program.now.program) (command_of c.args.command.now) c.requires.build c.in-Ok.ensures.native

pub returns-in-Err-clause-ends : goal.returns-in-Err-clause-ends
returns-in-Err-clause-ends g c = c.in-Err.ensures.ends (log_file_of c.args.log.now) (streams g.O.Sink c.args.out.now c.args.out.now g.E.Sink c.args.err.now c.args.err.now) (refl, refl)

pub returns-in-Ok-proved-clause-ends : goal.returns-in-Ok-proved-clause-ends
returns-in-Ok-proved-clause-ends g c =
    let s = streams g.O.Sink c.args.out.now c.put_listing.new.sink g.E.Sink c.args.err.now c.proved.new.err in
    listing_ends (program_of c.args.program.now.program) (log_file_of c.args.log.now) s (command_of c.args.command.now) (code_of c.in-Ok.code) c.put_listing.result c.requires.build
    (record { proved = c.in-Ok-proved.ensures.proved; native = c.in-Ok.ensures.native; compiled = c.in-Ok.ensures.compiled }) c.in-Ok-proved.ensures.proves c.put_listing.ensures.puts (ap g.E.Sink.taken c.in-Ok-proved.ensures.silent)

pub returns-clause-ends : goal.returns-clause-ends
returns-clause-ends g c = c.in-Err-proved.ensures.ends (stream g.O.Sink c.args.out.now c.args.out.now) refl
