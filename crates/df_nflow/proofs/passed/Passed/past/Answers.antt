use Rattle.df_nflow.proofs.Words.{ap, ◌∙◌, grows_then, stands_as, Ledger, ledger_keeps, on_ok_then, narrowed_path}
use Rattle.df_nflow.proofs.Standings.{standing_keeps}
use Rattle.df_nflow.proofs.Waiting.{passed_stays}
use Rattle.df_nflow.proofs.Passing.{is_passed}
use Rattle.df_nledger.proofs.Growing.{ledger_stays}
use Rattle.df_nflow.proofs.passed.Passed.past.Goals as goal

pub invariant_of-self : goal.invariant_of-self
invariant_of-self c = let s = c.args.self.now in (ledger_stays s.ledger.nodes c.negation.new.nodes c.negation.ensures.grows s.ledger.path s.ledger.said.items s.ledger.is_ledger, tt)

pub invariant_of-self-in-Break-1 : goal.invariant_of-self-in-Break-1
invariant_of-self-in-Break-1 c = let s = c.args.self.now in record { is_passed = passed_stays s.ledger.nodes c.negation.new.nodes c.negation.ensures.grows s.types.items s.terms.items s.entry.items s.trail.items s.breaks.items s.returns.items s.is_passed }

pub invariant_of-self-2 : goal.invariant_of-self-2
invariant_of-self-2 c = record { is_passed = is_passed c.args.self.now c.narrowed.new.self (grows_then _ _ _ c.negation.ensures.grows c.narrowed.ensures.grows) }

pub returns-clause-standing : goal.returns-clause-standing
returns-clause-standing c =
    let s = c.args.self.now in
    on_ok_then c.narrowed.result c.narrowed.ensures.ledger (λ then. standing_keeps s.ledger c.narrowed.new.self s.types.items s.terms.items s.entry.items s.trail.items s.breaks.items s.returns.items (grows_then s.ledger.nodes c.negation.new.nodes c.narrowed.new.self.nodes c.negation.ensures.grows c.narrowed.ensures.grows) s.is_passed (then ∙ ledger_keeps s.ledger.nodes c.negation.new.nodes s.ledger.said.items s.ledger.frees.items s.ledger.path c.negation.ensures.grows s.ledger.is_ledger))

pub returns-clause-stands : goal.returns-clause-stands
returns-clause-stands c =
    let s = c.args.self.now in
    let path = ap (λ (l : Ledger). l.path) (ledger_keeps s.ledger.nodes c.negation.new.nodes s.ledger.said.items s.ledger.frees.items s.ledger.path c.negation.ensures.grows s.ledger.is_ledger) in
    let tree = c.in_ok-negated.ensures.stands.tree_is in
    stands_as c.narrowed.result c.narrowed.new.self.nodes _ _ (λ i. narrowed_path (path i) (tree i)) c.narrowed.ensures.stands

-- ---- on every way out

pub returns-clause-grows : goal.returns-clause-grows
returns-clause-grows c = grows_then _ _ _ c.negation.ensures.grows c.narrowed.ensures.grows
