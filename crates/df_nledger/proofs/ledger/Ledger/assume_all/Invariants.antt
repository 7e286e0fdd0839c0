use Rattle.df_nledger.proofs.Conditions.{Saying, known}
use Rattle.df_nledger.proofs.ledger.Ledger.assume_all.Given as goal

abbrev pub invariant-loop-condition : goal.invariant-loop-condition
invariant-loop-condition l = Saying known l.fn.self l.self l.conditions l.condition-index
