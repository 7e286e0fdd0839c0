use Rattle.df_nledger.proofs.Words.{place_at}
use Rattle.df_nledger.proofs.Repeated.{Saying, owed}
use Rattle.df_nledger.proofs.ledger.Ledger.assert_clauses.Given as goal

abbrev pub invariant-loop-clause : goal.invariant-loop-clause
invariant-loop-clause l = Saying (owed (place_at l.place) l.kind) l.fn.self l.self l.terms l.clauses l.clause-index
