use Rattle.df_nledger.proofs.Words.{ap, is_ok, path_in, Known}
use Rattle.df_nledger.specs.declared.said.Said.TheVariants as said
use Rattle.df_nledger.proofs.Growing.{ledger_stays, ledger_either, on_path_term}
use Rattle.df_nledger.proofs.Ledgers.{ledger_says}
use Rattle.df_nledger.proofs.Places.{path_is}
use Rattle.df_nledger.proofs.ledger.Ledger.assume_on.Goals as goal

pub invariant_of-self : goal.invariant_of-self
invariant_of-self c = record { is_ledger = ledger_stays c.args.self.now.nodes c.on_path.new.nodes c.on_path.ensures.grows c.args.self.now.path c.args.self.now.said.items c.args.self.now.is_ledger }

pub on_path-requires-clause-path : goal.on_path-requires-clause-path
on_path-requires-clause-path c = path_is c.args.self.now.nodes c.args.path c.requires.path

pub invariant_of-self-2 : goal.invariant_of-self-2
invariant_of-self-2 c = record {
  is_ledger = ledger_either c.args.self.now.nodes c.on_path.new.nodes c.on_path.ensures.grows c.args.self.now.path c.args.self.now.said.items c.push.new.self.items (said.Known c.in_ok-formula.formula) (is_ok c.push.result) c.push.ensures.items c.args.self.now.is_ledger
      (on_path_term c.args.self.now.nodes c.on_path.new.nodes (path_in c.args.self.now.nodes c.args.path) c.args.formula c.in_ok-formula.formula c.requires.formula c.in_ok-formula.ensures.stands);
}

pub returns-clause-ledger : goal.returns-clause-ledger
returns-clause-ledger c =
    ledger_says c.args.self.now.nodes c.on_path.new.nodes c.args.self.now.said.items c.args.self.now.frees.items c.args.self.now.path c.on_path.ensures.grows c.args.self.now.is_ledger c.push.new.self.items (said.Known c.in_ok-formula.formula) _ c.in_ok-push.ensures.items
    (ap (Known) c.in_ok-formula.ensures.stands.tree_is)
