use Rattle.df_nledger.proofs.Ledgers.{ledger_keeps, on_ok}
use Rattle.df_nledger.proofs.Growing.{ledger_stays}
use Rattle.df_nledger.proofs.Places.{path_is}
use Rattle.df_nledger.proofs.ledger.Ledger.narrowed.Goals as goal

pub invariant_of-self : goal.invariant_of-self
invariant_of-self c = record { is_ledger = ledger_stays c.args.self.now.nodes c.narrowed_path.new.nodes c.narrowed_path.ensures.grows c.args.self.now.path c.args.self.now.said.items c.args.self.now.is_ledger }

pub narrowed_path-requires-clause-path : goal.narrowed_path-requires-clause-path
narrowed_path-requires-clause-path c = path_is c.args.self.now.nodes c.args.self.now.path c.args.self.now.is_ledger.path_is

pub returns-clause-ledger : goal.returns-clause-ledger
returns-clause-ledger c = on_ok c.narrowed_path.result (ledger_keeps c.args.self.now.nodes c.narrowed_path.new.nodes c.args.self.now.said.items c.args.self.now.frees.items c.args.self.now.path c.narrowed_path.ensures.grows c.args.self.now.is_ledger)
