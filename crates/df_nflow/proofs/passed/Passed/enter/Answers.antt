use Rattle.df_nflow.proofs.Words.{Some, ap, ◌∙◌, tree_at, Term, standing_of, at_path}
use Rattle.df_nflow.proofs.Standings.{standing_keeps}
use Rattle.df_nflow.proofs.Passing.{is_passed}
use Rattle.df_nflow.proofs.passed.Passed.enter.Goals as goal

pub invariant_of-self : goal.invariant_of-self
invariant_of-self c = record { is_passed = is_passed c.args.self.now c.narrowed.new.self c.narrowed.ensures.grows }

pub invariant_of-self-3 : goal.invariant_of-self-3
invariant_of-self-3 c = record { is_passed = is_passed c.args.self.now c.narrowed.new.self c.narrowed.ensures.grows }

pub returns-clause-standing : goal.returns-clause-standing
returns-clause-standing c =
    let s = c.args.self.now in
    ap (at_path (Some (tree_at c.narrowed.new.self.nodes c.in_ok-path.path))) (standing_keeps s.ledger c.narrowed.new.self s.types.items s.terms.items s.entry.items s.trail.items s.breaks.items s.returns.items c.narrowed.ensures.grows s.is_passed c.in_ok-path.ensures.ledger)
    ∙ ap (λ (t : Term). at_path (Some t) (standing_of s)) c.in_ok-path.ensures.stands.tree_is
