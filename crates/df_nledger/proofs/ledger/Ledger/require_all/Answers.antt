use Rattle.df_nledger.proofs.Words.{grows_then}
use Rattle.df_nledger.proofs.Repeated.{required, saying_next}
use Rattle.df_nledger.proofs.ledger.Ledger.require_all.Goals as goal

pub loop-clause-preserved : goal.loop-clause-preserved
loop-clause-preserved c =
    let l = c.loop-clause in
    saying_next required c.args.self.now l.self c.args.terms.now c.args.clauses.now l.clause-index c.clause-item.result c.require.new.self l.invariant c.requires c.loop-clause-test.true c.clause-item.is c.require.ensures.grows
    c.in_ok-require.ensures.ledger

-- ---- on every way out

pub returns-in_err-require-clause-grows : goal.returns-in_err-require-clause-grows
returns-in_err-require-clause-grows c = grows_then _ _ _ c.loop-clause.invariant.grows c.require.ensures.grows
