use Rattle.df_nledger.proofs.Words.{◌∙◌, stays, saying, assume_all, grows_then}
use Rattle.df_nledger.proofs.Growing.{ledger_stays}
use Rattle.df_nledger.proofs.Sayings.{asked_are, asked_same}
use Rattle.df_nledger.proofs.Ledgers.{ledger_keeps}
use Rattle.df_nledger.proofs.ledger.Ledger.known_value.Goals as goal

pub invariant_of-self : goal.invariant_of-self
invariant_of-self c = record { is_ledger = ledger_stays c.args.self.now.nodes c.defined.new.nodes c.defined.ensures.grows c.args.self.now.path c.args.self.now.said.items c.args.self.now.is_ledger }

pub assume_all-requires : goal.assume_all-requires
assume_all-requires c = asked_are c.defined.new.nodes _ c.new-conditions.result.items c.defined.new.out.items c.deref.result.now c.in_ok-term.ensures.gives.adds c.new-conditions.ensures.items c.deref.ensures.value

pub returns-clause-ledger : goal.returns-clause-ledger
returns-clause-ledger c =
    let kept = ledger_keeps c.args.self.now.nodes c.defined.new.nodes c.args.self.now.said.items c.args.self.now.frees.items c.args.self.now.path c.defined.ensures.grows c.args.self.now.is_ledger in
    let asked = asked_same c.defined.new.nodes _ c.new-conditions.result.items c.defined.new.out.items c.deref.result.now c.in_ok-term.ensures.gives.adds c.new-conditions.ensures.items c.deref.ensures.value in
    c.in_ok-assume_all.ensures.ledger ∙ (λ i. saying (assume_all (kept i).path (asked i)) (kept i))

pub returns-clause-stands : goal.returns-clause-stands
returns-clause-stands c = stays c.defined.new.nodes c.assume_all.new.self.nodes _ c.in_ok-term.term c.assume_all.ensures.grows c.in_ok-term.ensures.gives.stands

-- ---- on every way out

pub returns-in_err-assume_all-clause-grows : goal.returns-in_err-assume_all-clause-grows
returns-in_err-assume_all-clause-grows c = grows_then _ _ _ c.defined.ensures.grows c.assume_all.ensures.grows

pub returns-clause-grows : goal.returns-clause-grows
returns-clause-grows c = grows_then _ _ _ c.defined.ensures.grows c.assume_all.ensures.grows
