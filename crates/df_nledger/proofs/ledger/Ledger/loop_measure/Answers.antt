use Rattle.df_nledger.proofs.Words.{ap, ◌∙◌, expr_of, loop_measure, decreases_in, ledger_of, way_of, saying, assert_all, grows_then}
use Rattle.df_nledger.proofs.Sayings.{asked_are, asked_same, measure_said}
use Rattle.df_nledger.proofs.Growing.{ledger_stays, measured_same}
use Rattle.df_nledger.proofs.Ledgers.{ledger_keeps}
use Rattle.df_nledger.proofs.ledger.Ledger.loop_measure.Goals as goal

pub invariant_of-self : goal.invariant_of-self
invariant_of-self c = record { is_ledger = ledger_stays c.args.self.now.nodes c.loop_measure.new.nodes c.loop_measure.ensures.grows c.args.self.now.path c.args.self.now.said.items c.args.self.now.is_ledger }

pub assert_all-requires : goal.assert_all-requires
assert_all-requires c = asked_are c.loop_measure.new.nodes _ c.new-conditions.result.items c.loop_measure.new.out.items c.deref.result.now c.in_ok-made.ensures.measures.adds c.new-conditions.ensures.items c.deref.ensures.value

pub returns-clause-ledger : goal.returns-clause-ledger
returns-clause-ledger c =
    let kept = ledger_keeps c.args.self.now.nodes c.loop_measure.new.nodes c.args.self.now.said.items c.args.self.now.frees.items c.args.self.now.path c.loop_measure.ensures.grows c.args.self.now.is_ledger in
    let asked = asked_same c.loop_measure.new.nodes _ c.new-conditions.result.items c.loop_measure.new.out.items c.deref.result.now c.in_ok-made.ensures.measures.adds c.new-conditions.ensures.items c.deref.ensures.value in
    c.in_ok-assert_all.ensures.ledger ∙ (λ i. saying (assert_all (kept i).path (asked i)) (kept i))
    ∙ ap (λ s. saying s (ledger_of c.args.self.now)) (measure_said (way_of c.args.self.now c.args.terms.now) (loop_measure (expr_of c.args.guard.now) (decreases_in c.args.decreases.now)))

pub returns-clause-measured : goal.returns-clause-measured
returns-clause-measured c = measured_same c.loop_measure.new.nodes c.assert_all.new.self.nodes c.assert_all.ensures.grows c.in_ok-made.made.items c.in_ok-made.ensures.measures.are ∙ c.in_ok-made.ensures.measures.members_are

-- ---- on every way out

pub returns-in_err-assert_all-clause-grows : goal.returns-in_err-assert_all-clause-grows
returns-in_err-assert_all-clause-grows c = grows_then _ _ _ c.loop_measure.ensures.grows c.assert_all.ensures.grows

pub returns-clause-grows : goal.returns-clause-grows
returns-clause-grows c = grows_then _ _ _ c.loop_measure.ensures.grows c.assert_all.ensures.grows
