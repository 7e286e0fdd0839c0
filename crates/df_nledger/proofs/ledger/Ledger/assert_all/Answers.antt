use Rattle.df_nledger.proofs.Words.{grows_then}
use Rattle.df_nledger.proofs.Conditions.{owed, formula_there, saying_next}
use Rattle.df_nledger.proofs.ledger.Ledger.assert_all.Goals as goal

pub assert-requires : goal.assert-requires
assert-requires c =
    let l = c.loop-condition in
    formula_there owed c.args.self.now l.self c.args.conditions.now l.condition-index l.invariant c.requires c.loop-condition-test.true

pub loop-condition-preserved : goal.loop-condition-preserved
loop-condition-preserved c =
    let l = c.loop-condition in
    saying_next owed c.args.self.now l.self c.args.conditions.now l.condition-index l.invariant c.requires c.loop-condition-test.true c.assert.new.self c.assert.ensures.grows c.in_ok-assert.ensures.ledger

-- ---- on every way out

pub returns-in_err-assert-clause-grows : goal.returns-in_err-assert-clause-grows
returns-in_err-assert-clause-grows c = grows_then _ _ _ c.loop-condition.invariant.grows c.assert.ensures.grows
