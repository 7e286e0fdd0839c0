use Rattle.df_nledger.proofs.Words.{◌∙◌, is_term, Truths, saying, assert, grows_then}
use Rattle.df_nledger.proofs.Growing.{ledger_stays}
use Rattle.df_meaning.specs.declared.kind.Kind.TheVariants as kinds
use Rattle.df_nmeas.proofs.Sides.{measures_below_is}
use Rattle.df_nledger.proofs.Ledgers.{ledger_keeps, on_ok_then}
use Rattle.df_nledger.proofs.ledger.Ledger.assert_below.Goals as goal

pub invariant_of-self : goal.invariant_of-self
invariant_of-self c = record { is_ledger = ledger_stays c.args.self.now.nodes c.below.new.nodes c.below.ensures.grows c.args.self.now.path c.args.self.now.said.items c.args.self.now.is_ledger }

pub assert-requires : goal.assert-requires
assert-requires c = is_term _ Truths _ _ c.in_ok-formula.ensures.stands (measures_below_is _ _)

pub returns-clause-ledger : goal.returns-clause-ledger
returns-clause-ledger c =
    let kept = ledger_keeps c.args.self.now.nodes c.below.new.nodes c.args.self.now.said.items c.args.self.now.frees.items c.args.self.now.path c.below.ensures.grows c.args.self.now.is_ledger in
    let tree = c.in_ok-formula.ensures.stands.tree_is in
    on_ok_then c.assert.result c.assert.ensures.ledger (λ e. e ∙ (λ i. saying (assert (kept i).path c.args.pos kinds.Decreases (tree i)) (kept i)))

-- ---- on every way out

pub returns-clause-grows : goal.returns-clause-grows
returns-clause-grows c = grows_then _ _ _ c.below.ensures.grows c.assert.ensures.grows
