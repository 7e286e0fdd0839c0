use Rattle.df_nledger.proofs.Ledgers.{ledger_keeps, on_ok}
use Rattle.df_nledger.proofs.Growing.{ledger_stays}
use Rattle.df_nledger.proofs.ledger.Ledger.unset_one.Goals as goal

pub invariant_of-self : goal.invariant_of-self
invariant_of-self c = record { is_ledger = ledger_stays c.args.self.now.nodes c.some_value.new.nodes c.some_value.ensures.grows c.args.self.now.path c.args.self.now.said.items c.args.self.now.is_ledger }

pub returns-clause-ledger : goal.returns-clause-ledger
returns-clause-ledger c = on_ok c.some_value.result (ledger_keeps c.args.self.now.nodes c.some_value.new.nodes c.args.self.now.said.items c.args.self.now.frees.items c.args.self.now.path c.some_value.ensures.grows c.args.self.now.is_ledger)
