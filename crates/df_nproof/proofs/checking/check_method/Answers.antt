use Rattle.std.proofs.Common.{refl, arith}
use Rattle.df_lang.specs.View.{program_of}
use Rattle.df_logtext.specs.View.{logs_of}
use Rattle.df_nowed.specs.Obligation.{obligation_in}
use Rattle.df_nverdict.proofs.Judgements.{owed_at}
use Rattle.df_nproof.proofs.Taking.{none_so_far, more_so_far, all_taken, fails_at}
use Rattle.df_nproof.proofs.checking.check_method.Goals as goal

pub loop-obligation-init : goal.loop-obligation-init
loop-obligation-init c =
    let owed = c.args.owed.now in
    record {
      within = c.requires.within;
      so_far = none_so_far (program_of c.args.program.now) (obligation_in owed.declaration owed.nodes owed.known) c.deref-obligation-items.result.now (logs_of c.args.parts.now) c.args.first c.args.first refl;
    }

pub check_next-requires-clause-owed : goal.check_next-requires-clause-owed
check_next-requires-clause-owed c =
    owed_at c.args.owed.now c.deref-obligation-items.result.now c.loop-obligation.obligation-index _ c.deref-obligation-items.ensures.value c.loop-obligation-test.true

pub loop-obligation-preserved : goal.loop-obligation-preserved
loop-obligation-preserved c =
    let owed = c.args.owed.now in
    record {
      within = omega (arith, c.in-Ok.ensures.more);
      so_far = more_so_far (program_of c.args.program.now) (obligation_in owed.declaration owed.nodes owed.known) c.deref-obligation-items.result.now c.loop-obligation.obligation-index _ (logs_of c.args.parts.now) c.args.first c.loop-obligation.taken
          c.loop-obligation-test.true c.loop-obligation.invariant.so_far c.in-Ok.ensures.next;
    }

pub returns-in-Err-clause-fails : goal.returns-in-Err-clause-fails
returns-in-Err-clause-fails c =
    let owed = c.args.owed.now in
    let program = program_of c.args.program.now in
    let view = obligation_in owed.declaration owed.nodes owed.known in
    rw c.deref-obligation-items.ensures.value at
    (fails_at program view c.deref-obligation-items.result.now c.loop-obligation.obligation-index _ (logs_of c.args.parts.now) c.args.first c.loop-obligation.taken c.in-Err.fault
    c.loop-obligation-test.true c.loop-obligation.invariant.so_far c.in-Err.ensures.bad)

pub returns-clause-takes : goal.returns-clause-takes
returns-clause-takes c =
    let owed = c.args.owed.now in
    let program = program_of c.args.program.now in
    let view = obligation_in owed.declaration owed.nodes owed.known in
    rw c.deref-obligation-items.ensures.value at
    (all_taken program view c.deref-obligation-items.result.now c.loop-obligation.obligation-index (logs_of c.args.parts.now) c.args.first c.loop-obligation.taken c.loop-obligation-test.false c.loop-obligation.invariant.so_far)
