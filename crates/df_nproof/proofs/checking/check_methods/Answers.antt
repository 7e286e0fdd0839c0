use Rattle.std.proofs.Common.{arith}
use Rattle.df_lang.specs.View.{program_of}
use Rattle.df_logtext.specs.View.{logs_of}
use Rattle.df_nowed.specs.Obligation.{obligations_in}
use Rattle.df_nproof.proofs.Taking.{none_taken, method_taken, methods_taken, method_fails}
use Rattle.df_nproof.proofs.checking.check_methods.Goals as goal

pub loop-owed-init : goal.loop-owed-init
loop-owed-init c = record { within = omega arith; taken = none_taken (program_of c.args.program.now) (logs_of c.args.parts.now) }

pub loop-owed-preserved : goal.loop-owed-preserved
loop-owed-preserved c = record {
  within = c.in-Ok.ensures.within;
  taken = method_taken (program_of c.args.program.now) obligations_in c.args.methods.now c.loop-owed.owed-index c.owed-item.result (logs_of c.args.parts.now) c.loop-owed.taken c.in-Ok.now
      c.loop-owed-test.true c.owed-item.is c.loop-owed.invariant.taken c.in-Ok.ensures.takes;
}

pub returns-in-Err-clause-fails : goal.returns-in-Err-clause-fails
returns-in-Err-clause-fails c =
    method_fails (program_of c.args.program.now) obligations_in c.args.methods.now c.loop-owed.owed-index c.owed-item.result (logs_of c.args.parts.now) c.loop-owed.taken c.in-Err.fault
    c.loop-owed-test.true c.owed-item.is c.loop-owed.invariant.taken c.in-Err.ensures.fails

pub returns-clause-taken : goal.returns-clause-taken
returns-clause-taken c =
    methods_taken (program_of c.args.program.now) obligations_in c.args.methods.now c.loop-owed.owed-index (logs_of c.args.parts.now) c.loop-owed.taken c.loop-owed-test.false c.loop-owed.invariant.taken
