use Rattle.df_nmeas.proofs.Words.{◌≡◌, ◌<◌, ◌-◌, length, drop, refl, sym, subst, arith, rules, Truths, grows_then, is_term, pairs_before}
use Rattle.df_nmeas.proofs.Pairs.{pairs_fit, pairs_end}
use Rattle.df_nmeas.proofs.Sides.{measures_below_is, member_stays, front_goes}
use Rattle.df_nmeas.proofs.order.below.Goals as goal

pub at_end-requires-clause-end : goal.at_end-requires-clause-end
at_end-requires-clause-end c = subst (λ k. pairs_before (drop k c.args.now.now) (drop k c.args.before.now) ≡ 0) (sym c.pairs-place.ensures) (pairs_end c.args.now.now c.args.before.now)

pub loop-place-init : goal.loop-place-init
loop-place-init c = record {
  grows = c.at_end.ensures.grows;
  formula = is_term _ Truths _ _ c.in_ok-formula.ensures.stands (measures_below_is _ _);
  place = omega arith;
  same = c.in_ok-formula.ensures.stands.tree_is;
}

pub offset_bounds-now-place : goal.offset_bounds-now-place
offset_bounds-now-place c =
    let first = (pairs_fit c.args.now.now c.args.before.now).0 in
    let less : c.loop-place.place - 1 < length c.args.now.now = omega arith in
    search (rules, less)

pub bounds-now-place : goal.bounds-now-place
bounds-now-place c = let first = (pairs_fit c.args.now.now c.args.before.now).0 in omega arith

pub offset_bounds-before-place : goal.offset_bounds-before-place
offset_bounds-before-place c =
    let second = (pairs_fit c.args.now.now c.args.before.now).1 in
    let less : c.loop-place.place - 1 < length c.args.before.now = omega arith in
    search (rules, less)

pub bounds-before-place : goal.bounds-before-place
bounds-before-place c = let second = (pairs_fit c.args.now.now c.args.before.now).1 in omega arith

pub in_front-requires : goal.in_front-requires
in_front-requires c =
    let first = (pairs_fit c.args.now.now c.args.before.now).0 in
    let second = (pairs_fit c.args.now.now c.args.before.now).1 in
    record { now = member_stays c.args.now.now c.args.before.now _ c.args.nodes.now c.loop-place.nodes c.loop-place.nodes c.args.now.now (c.loop-place.place - 1) (omega arith) c.requires.now c.loop-place.invariant.grows; before = member_stays c.args.now.now c.args.before.now _ c.args.nodes.now c.loop-place.nodes c.loop-place.nodes c.args.before.now (c.loop-place.place - 1) (omega arith) c.requires.before c.loop-place.invariant.grows; others = c.loop-place.invariant.formula }

pub loop-place-preserved : goal.loop-place-preserved
loop-place-preserved c = record {
  grows = grows_then c.args.nodes.now c.loop-place.nodes c.in_front.new.nodes c.loop-place.invariant.grows c.in_front.ensures.grows;
  formula = is_term _ Truths _ _ c.in_ok-formula-2.ensures.stands refl;
  place = omega arith;
  same = front_goes c.args.now.now c.args.before.now _ c.args.nodes.now c.loop-place.nodes c.in_front.new.nodes c.loop-place.place (c.loop-place.place - 1) c.loop-place.formula c.in_ok-formula-2.formula (omega arith) c.loop-place.invariant.place c.requires.now c.requires.before
      c.loop-place.invariant.grows c.loop-place.invariant.same c.in_ok-formula-2.ensures.stands;
}

pub returns-in_err-formula-2-clause-grows : goal.returns-in_err-formula-2-clause-grows
returns-in_err-formula-2-clause-grows c = grows_then _ _ _ c.loop-place.invariant.grows c.in_front.ensures.grows

pub returns-clause-grows : goal.returns-clause-grows
returns-clause-grows c = c.loop-place.invariant.grows
