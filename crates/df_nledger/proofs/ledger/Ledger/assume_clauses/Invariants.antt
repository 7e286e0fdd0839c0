use Rattle.df_nledger.proofs.Repeated.{Saying, known}
use Rattle.df_nledger.proofs.ledger.Ledger.assume_clauses.Given as goal

abbrev pub invariant-loop-clause : goal.invariant-loop-clause
invariant-loop-clause l = Saying known l.fn.self l.self l.terms l.clauses l.clause-index
