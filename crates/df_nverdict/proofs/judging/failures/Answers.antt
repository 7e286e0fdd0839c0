use Rattle.std.proofs.Common.{List, map, subst}
use Rattle.df_lang.specs.DeclView.{param_of}
use Rattle.df_lang.specs.View.{program_of}
use Rattle.df_nowed.specs.Obligation.{obligation_in}
use Rattle.df_nowed.specs.declared.obligation.Obligation.{Obligation}
use Rattle.df_report.specs.View.{failure_of}
use Rattle.df_nverdict.specs.Verdict.{Judges}
use Rattle.df_nverdict.proofs.Judgements.{judges_none, judges_more, judges_all, owed_at}
use Rattle.df_nverdict.proofs.judging.failures.Goals as goal

pub loop-obligation-init : goal.loop-obligation-init
loop-obligation-init c =
    let entry = c.args.entry.now in
    judges_none (program_of entry.program.now) (map param_of entry.params.now) c.args.budget c.new-failures.result.items _ c.new-failures.ensures.items c.requires.none

pub add-requires-clause-owed : goal.add-requires-clause-owed
add-requires-clause-owed c =
    owed_at c.args.entry.now.owed.now c.deref-obligation-items.result.now c.loop-obligation.obligation-index _ c.deref-obligation-items.ensures.value c.loop-obligation-test.true

pub loop-obligation-preserved : goal.loop-obligation-preserved
loop-obligation-preserved c =
    let entry = c.args.entry.now in
    let owed = entry.owed.now in
    judges_more (program_of entry.program.now) (map param_of entry.params.now) c.args.budget (obligation_in owed.declaration owed.nodes owed.known) c.deref-obligation-items.result.now c.loop-obligation.obligation-index _ _ _ _ _
    c.loop-obligation-test.true c.loop-obligation.invariant c.in_ok-add.ensures

pub returns : goal.returns
returns c =
    let entry = c.args.entry.now in
    let owed = entry.owed.now in
    let program = program_of entry.program.now in
    let params = map param_of entry.params.now in
    let view = obligation_in owed.declaration owed.nodes owed.known in
    subst (λ (os : List Obligation). Judges program params c.args.budget (map view os) (map failure_of c.loop-obligation.failures.items) c.loop-obligation.proofs.items) c.deref-obligation-items.ensures.value
    (judges_all program params c.args.budget view c.deref-obligation-items.result.now c.loop-obligation.obligation-index _ _ c.loop-obligation-test.false c.loop-obligation.invariant)
