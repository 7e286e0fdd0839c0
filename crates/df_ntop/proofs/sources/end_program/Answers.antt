use Rattle.std.proofs.Common.{refl}
use Rattle.df_ncmd.specs.View.{command_of}
use Rattle.df_ntop.specs.Call.{stream}
use Rattle.df_ntop.specs.View.{log_file_of}
use Rattle.df_ntop.proofs.Limits.{is_verify, is_prove, is_check, is_build, is_run}
use Rattle.df_ntop.proofs.sources.end_program.Goals as goal

pub verify-requires-clause-verify : goal.verify-requires-clause-verify
verify-requires-clause-verify g c = is_verify (command_of c.args.command.now) (rw c.in-Verify.is refl)

pub returns-in-Verify-clause-ends : goal.returns-in-Verify-clause-ends
returns-in-Verify-clause-ends g c = c.verify.ensures.ends (log_file_of c.args.log.now) (stream g.E.Sink c.args.err.now c.args.err.now) refl

pub prove_file-requires-clause-prove : goal.prove_file-requires-clause-prove
prove_file-requires-clause-prove g c = is_prove (command_of c.args.command.now) (rw c.in-Prove.is refl)

pub returns-in-Prove-clause-ends : goal.returns-in-Prove-clause-ends
returns-in-Prove-clause-ends g c = c.prove_file.ensures.ends (log_file_of c.args.log.now)

pub check_file-requires-clause-check : goal.check_file-requires-clause-check
check_file-requires-clause-check g c = is_check (command_of c.args.command.now) (rw c.in-Check.is refl)

pub returns-in-Check-clause-ends : goal.returns-in-Check-clause-ends
returns-in-Check-clause-ends g c = c.check_file.ensures.ends (stream g.E.Sink c.args.err.now c.args.err.now) refl

pub build-requires-clause-build : goal.build-requires-clause-build
build-requires-clause-build g c = is_build (command_of c.args.command.now) (rw c.in-Build.is refl)

pub run-requires-clause-run : goal.run-requires-clause-run
run-requires-clause-run g c = is_run (command_of c.args.command.now) c.in-Run.fuel (rw c.in-Run.is refl) (rw c.in-Run.is refl)

pub bulk-requires-clause-bulk : goal.bulk-requires-clause-bulk
bulk-requires-clause-bulk g c = rw c.in-Bulk.is refl

pub returns-in-Bulk-clause-ends : goal.returns-in-Bulk-clause-ends
returns-in-Bulk-clause-ends g c = c.bulk.ensures.ends (log_file_of c.args.log.now) (stream g.E.Sink c.args.err.now c.args.err.now) refl
