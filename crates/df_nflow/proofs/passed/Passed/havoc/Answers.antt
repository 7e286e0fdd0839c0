use Rattle.df_nflow.proofs.Words.{suc, List, refl, ap, ◌∙◌, subst, drop_all, Ty, Changed, tree_at, grows_not, grows_then, grows_same, is_term, assume_type, free_of, havoc, sort_of_type, standing_of, are_at, changed_of, changed_in, DeclaredChanged}
use Rattle.df_nflow.proofs.Changes.{kept_of, said_given}
use Rattle.df_nflow.proofs.Going.{Moving, moving_from, moving_done, moving_havoc}
use Rattle.df_nflow.proofs.Passing.{gone_on, gives, is_passed}
use Rattle.df_nflow.proofs.Together.{here_changed, behind_changed, changed_next, at_next}
use Rattle.df_nflow.proofs.passed.Passed.havoc.Goals as goal

pub invariant_of-self : goal.invariant_of-self
invariant_of-self c = record { is_passed = is_passed c.loop-one.self c.any.new.self c.any.ensures.grows }

pub loop-one-init : goal.loop-one-init
loop-one-init c = record { grows = grows_not c.args.self.now.ledger.nodes; at = c.requires; moving = moving_from (standing_of c.args.self.now) _ }

pub give-requires : goal.give-requires
give-requires c =
    let l = c.loop-one in
    let x = here_changed c.args.changed.now l.one-index c.loop-one-test.true in
    kept_of c.any.new.self.nodes l.self.types.items x.local x.ty c.in_ok-term.term (at_next c.args.changed.now l.one-index c.loop-one-test.true l.self.types.items l.invariant.at).0
    (is_term c.any.new.self.nodes (sort_of_type x.ty) _ c.in_ok-term.term c.in_ok-term.ensures.stands refl)

pub loop-one-preserved : goal.loop-one-preserved
loop-one-preserved c =
    let l = c.loop-one in
    let s = l.self in
    let xs = c.args.changed.now in
    let less = c.loop-one-test.true in
    let x = here_changed xs l.one-index less in
    let next = behind_changed xs l.one-index less in
    let any = c.any.new.self in
    let first = standing_of c.args.self.now in
    let here = standing_of s in
    let new = c.give.new.self in
    let given = said_given here (gone_on s any c.any.ensures.grows) (standing_of new) (assume_type here.way.path x.ty (free_of here.fresh x.ty)) (suc here.fresh) x.local (tree_at any.nodes c.in_ok-term.term) (free_of here.fresh x.ty)
    (gives s any c.any.ensures.grows _ _ c.in_ok-term.ensures.ledger) c.in_ok-term.ensures.stands.tree_is c.in_ok-give.ensures.moves in
    record {
      grows = grows_then c.args.self.now.ledger.nodes any.nodes new.ledger.nodes (grows_then c.args.self.now.ledger.nodes s.ledger.nodes any.nodes l.invariant.grows c.any.ensures.grows) (grows_same any.nodes new.ledger.nodes c.give.ensures.nodes);
      at = ap (λ (ts : List Ty). are_at ts next) given.types ∙ (at_next xs l.one-index less s.types.items l.invariant.at).1;
      moving = moving_havoc first here (standing_of new) _ (changed_of x) next (subst (λ (cs : List Changed). Moving first (havoc (changed_in xs) first.fresh first.way) here (havoc cs here.fresh here.way)) (changed_next xs l.one-index less) l.invariant.moving) given;
    }

pub returns-clause-moves : goal.returns-clause-moves
returns-clause-moves c =
    let l = c.loop-one in
    let first = standing_of c.args.self.now in
    let here = standing_of l.self in
    moving_done first here _ (subst (λ (ds : List DeclaredChanged). Moving first (havoc (changed_in c.args.changed.now) first.fresh first.way) here (havoc (changed_in ds) here.fresh here.way)) (drop_all l.one-index c.args.changed.now c.loop-one-test.false) l.invariant.moving)

-- ---- on every way out

pub returns-in_err-term-clause-grows : goal.returns-in_err-term-clause-grows
returns-in_err-term-clause-grows c = grows_then _ _ _ c.loop-one.invariant.grows c.any.ensures.grows

pub returns-in_err-give-clause-grows : goal.returns-in_err-give-clause-grows
returns-in_err-give-clause-grows c = grows_then _ _ _ (grows_then _ _ _ c.loop-one.invariant.grows c.any.ensures.grows) (grows_same _ _ c.give.ensures.nodes)

pub returns-clause-grows : goal.returns-clause-grows
returns-clause-grows c = c.loop-one.invariant.grows
