use Rattle.df_nledger.proofs.Conditions.{Saying, owed}
use Rattle.df_nledger.proofs.ledger.Ledger.assert_all.Given as goal

abbrev pub invariant-loop-condition : goal.invariant-loop-condition
invariant-loop-condition l = Saying owed l.fn.self l.self l.conditions l.condition-index
