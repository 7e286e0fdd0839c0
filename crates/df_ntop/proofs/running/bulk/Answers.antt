use Rattle.std.proofs.Common.{refl}
use Rattle.df_ncmd.specs.View.{command_of}
use Rattle.df_ntop.specs.Call.{stream}
use Rattle.df_ntop.proofs.Bulk.{bulk_compiles, bulk_runs}
use Rattle.df_ntop.proofs.running.bulk.Goals as goal

pub compiled-requires-clause-compiles : goal.compiled-requires-clause-compiles
compiled-requires-clause-compiles g c = bulk_compiles (command_of c.args.command.now) c.requires.bulk

pub entered-requires-clause-runs : goal.entered-requires-clause-runs
entered-requires-clause-runs g c = bulk_runs (command_of c.args.command.now) c.requires.bulk

pub returns-in-Err-clause-ends : goal.returns-in-Err-clause-ends
returns-in-Err-clause-ends g c = λ log err silent. c.in-Err.ensures.ends log (record { out = stream g.O.Sink c.args.out.now c.args.out.now; err = err }) (refl, silent)

pub returns-in-Err-entered-clause-ends : goal.returns-in-Err-entered-clause-ends
returns-in-Err-entered-clause-ends g c = λ log err silent. c.in-Err-entered.ensures.ends log (record { out = stream g.O.Sink c.args.out.now c.args.out.now; err = err }) (refl, silent)

pub returns-clause-ends : goal.returns-clause-ends
returns-clause-ends g c = c.report_and_run.ensures.ends
