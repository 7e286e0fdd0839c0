use Rattle.df_nledger.proofs.Ledgers.{ledger_frees}
use Rattle.df_nledger.proofs.Growing.{ledger_stays}
use Rattle.df_nledger.proofs.ledger.Ledger.fresh.Goals as goal

pub invariant_of-self : goal.invariant_of-self
invariant_of-self c = record { is_ledger = ledger_stays c.args.self.now.nodes c.free.new.nodes c.free.ensures.grows c.args.self.now.path c.args.self.now.said.items c.args.self.now.is_ledger }

pub invariant_of-self-2 : goal.invariant_of-self-2
invariant_of-self-2 c = record { is_ledger = ledger_stays c.args.self.now.nodes c.free.new.nodes c.free.ensures.grows c.args.self.now.path c.args.self.now.said.items c.args.self.now.is_ledger }

pub returns-clause-ledger : goal.returns-clause-ledger
returns-clause-ledger c = ledger_frees c.args.self.now.nodes c.free.new.nodes c.args.self.now.said.items c.args.self.now.frees.items c.args.self.now.path c.free.ensures.grows c.args.self.now.is_ledger c.push.new.self.items c.in_ok-term.term c.in_ok-push.ensures.items
