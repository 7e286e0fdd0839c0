use Rattle.df_nledger.proofs.Words.{◌∙◌, path_same, saying, assume, grows_then}
use Rattle.df_nledger.proofs.Growing.{ledger_stays}
use Rattle.df_nledger.proofs.Ledgers.{ledger_keeps, on_ok_then}
use Rattle.df_nledger.proofs.Places.{path_is, has_path_stays}
use Rattle.df_nledger.proofs.ledger.Ledger.assume_equal.Goals as goal

pub invariant_of-self : goal.invariant_of-self
invariant_of-self c = record { is_ledger = ledger_stays c.args.self.now.nodes c.equal_in.new.nodes c.equal_in.ensures.grows c.args.self.now.path c.args.self.now.said.items c.args.self.now.is_ledger }

pub assume_on-requires-clause-path : goal.assume_on-requires-clause-path
assume_on-requires-clause-path c = has_path_stays c.args.self.now.nodes c.equal_in.new.nodes c.args.path c.equal_in.ensures.grows c.requires.path

pub returns-clause-ledger : goal.returns-clause-ledger
returns-clause-ledger c =
    let s = c.args.self.now in
    let grows = c.equal_in.ensures.grows in
    let kept = ledger_keeps s.nodes c.equal_in.new.nodes s.said.items s.frees.items s.path grows s.is_ledger in
    let path = path_same s.nodes c.equal_in.new.nodes c.args.path grows (path_is s.nodes c.args.path c.requires.path) in
    let tree = c.in_ok-equal.ensures.stands.tree_is in
    on_ok_then c.assume_on.result c.assume_on.ensures.ledger (λ e. e ∙ (λ i. saying (assume (path i) (tree i)) (kept i)))

-- ---- on every way out

pub returns-clause-grows : goal.returns-clause-grows
returns-clause-grows c = grows_then _ _ _ c.equal_in.ensures.grows c.assume_on.ensures.grows
