use Rattle.df_nledger.proofs.Words.{◌∙◌, saying, assert_all, grows_then}
use Rattle.df_nledger.proofs.Growing.{ledger_stays}
use Rattle.df_nledger.proofs.Sayings.{asked_are, asked_same, under_none}
use Rattle.df_nledger.proofs.Ledgers.{ledger_keeps, on_ok_then}
use Rattle.df_nledger.proofs.ledger.Ledger.assert_conversion.Goals as goal

pub invariant_of-self : goal.invariant_of-self
invariant_of-self c = record { is_ledger = ledger_stays c.args.self.now.nodes c.owe_narrowing.new.nodes c.owe_narrowing.ensures.grows c.args.self.now.path c.args.self.now.said.items c.args.self.now.is_ledger }

pub assert_all-requires : goal.assert_all-requires
assert_all-requires c = asked_are c.owe_narrowing.new.nodes _ c.new-conditions.result.items c.owe_narrowing.new.out.items c.deref.result.now c.in_ok-owe_narrowing.ensures.adds c.new-conditions.ensures.items c.deref.ensures.value

pub returns-clause-ledger : goal.returns-clause-ledger
returns-clause-ledger c =
    let kept = ledger_keeps c.args.self.now.nodes c.owe_narrowing.new.nodes c.args.self.now.said.items c.args.self.now.frees.items c.args.self.now.path c.owe_narrowing.ensures.grows c.args.self.now.is_ledger in
    let asked = (asked_same c.owe_narrowing.new.nodes _ c.new-conditions.result.items c.owe_narrowing.new.out.items c.deref.result.now c.in_ok-owe_narrowing.ensures.adds c.new-conditions.ensures.items c.deref.ensures.value) ∙ under_none _ in
    on_ok_then c.assert_all.result c.assert_all.ensures.ledger (λ e. e ∙ (λ i. saying (assert_all (kept i).path (asked i)) (kept i)))

-- ---- on every way out

pub returns-clause-grows : goal.returns-clause-grows
returns-clause-grows c = grows_then _ _ _ c.owe_narrowing.ensures.grows c.assert_all.ensures.grows
