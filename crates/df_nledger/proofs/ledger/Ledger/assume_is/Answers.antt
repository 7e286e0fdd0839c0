use Rattle.df_nledger.proofs.Words.{refl, ◌∙◌, is_term, Truths, saying, assume, grows_then}
use Rattle.df_nledger.proofs.Growing.{ledger_stays}
use Rattle.df_nledger.proofs.Ledgers.{ledger_keeps, on_ok_then}
use Rattle.df_nledger.proofs.ledger.Ledger.assume_is.Goals as goal

pub invariant_of-self : goal.invariant_of-self
invariant_of-self c = record { is_ledger = ledger_stays c.args.self.now.nodes c.is_of.new.nodes c.is_of.ensures.grows c.args.self.now.path c.args.self.now.said.items c.args.self.now.is_ledger }

pub assume-requires : goal.assume-requires
assume-requires c = is_term _ Truths _ _ c.in_ok-formula.ensures.stands refl

pub returns-clause-ledger : goal.returns-clause-ledger
returns-clause-ledger c =
    let kept = ledger_keeps c.args.self.now.nodes c.is_of.new.nodes c.args.self.now.said.items c.args.self.now.frees.items c.args.self.now.path c.is_of.ensures.grows c.args.self.now.is_ledger in
    let tree = c.in_ok-formula.ensures.stands.tree_is in
    on_ok_then c.assume.result c.assume.ensures.ledger (λ e. e ∙ (λ i. saying (assume (kept i).path (tree i)) (kept i)))

-- ---- on every way out

pub returns-clause-grows : goal.returns-clause-grows
returns-clause-grows c = grows_then _ _ _ c.is_of.ensures.grows c.assume.ensures.grows
