use Rattle.df_nledger.proofs.Words.{grows_then}
use Rattle.df_nledger.proofs.Conditions.{known, formula_there, saying_next}
use Rattle.df_nledger.proofs.ledger.Ledger.assume_all.Goals as goal

pub assume-requires : goal.assume-requires
assume-requires c =
    let l = c.loop-condition in
    formula_there known c.args.self.now l.self c.args.conditions.now l.condition-index l.invariant c.requires c.loop-condition-test.true

pub loop-condition-preserved : goal.loop-condition-preserved
loop-condition-preserved c =
    let l = c.loop-condition in
    saying_next known c.args.self.now l.self c.args.conditions.now l.condition-index l.invariant c.requires c.loop-condition-test.true c.assume.new.self c.assume.ensures.grows c.in_ok-assume.ensures.ledger

-- ---- on every way out

pub returns-in_err-assume-clause-grows : goal.returns-in_err-assume-clause-grows
returns-in_err-assume-clause-grows c = grows_then _ _ _ c.loop-condition.invariant.grows c.assume.ensures.grows
