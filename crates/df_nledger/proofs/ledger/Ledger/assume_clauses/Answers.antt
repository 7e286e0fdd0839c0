use Rattle.df_nledger.proofs.Words.{grows_then}
use Rattle.df_nledger.proofs.Repeated.{known, saying_next}
use Rattle.df_nledger.proofs.ledger.Ledger.assume_clauses.Goals as goal

pub loop-clause-preserved : goal.loop-clause-preserved
loop-clause-preserved c =
    let l = c.loop-clause in
    saying_next known c.args.self.now l.self c.args.terms.now c.args.clauses.now l.clause-index c.clause-item.result c.assume_clause.new.self l.invariant c.requires c.loop-clause-test.true c.clause-item.is c.assume_clause.ensures.grows
    c.in_ok-assume_clause.ensures.ledger

-- ---- on every way out

pub returns-in_err-assume_clause-clause-grows : goal.returns-in_err-assume_clause-clause-grows
returns-in_err-assume_clause-clause-grows c = grows_then _ _ _ c.loop-clause.invariant.grows c.assume_clause.ensures.grows
