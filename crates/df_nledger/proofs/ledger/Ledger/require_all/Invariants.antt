use Rattle.df_nledger.proofs.Repeated.{Saying, required}
use Rattle.df_nledger.proofs.ledger.Ledger.require_all.Given as goal

abbrev pub invariant-loop-clause : goal.invariant-loop-clause
invariant-loop-clause l = Saying required l.fn.self l.self l.terms l.clauses l.clause-index
