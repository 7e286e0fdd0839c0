use Rattle.df_nenc.proofs.Reaching.{front_then}
use Rattle.df_nmeas.proofs.Words.{rules, ◌≡◌, ◌+◌, ◌∷◌, drop, sym, ap, subst, drop_all, trees_in, drop_next, AreOver, measures_in, grows_then}
use Rattle.df_lang.specs.StmtView.{measure_of}
use Rattle.df_nmeas.proofs.Pairs.{Measuring, measure_begins, measure_ends}
use Rattle.df_nmeas.proofs.Over.{member_part, members_left, measure_next}
use Rattle.df_nmeas.proofs.making.measure.Goals as goal

pub loop-measure-init : goal.loop-measure-init
loop-measure-init c = record {
  over = c.requires;
  going = subst (λ ms. Measuring (trees_in c.args.nodes.now c.args.terms.now) c.args.nodes.now c.args.nodes.now ms c.args.out.now.items c.args.out.now.items (measures_in c.args.measures.now) (measures_in c.args.measures.now)) (sym c.new-members.ensures.items)
      (measure_begins (trees_in c.args.nodes.now c.args.terms.now) c.args.nodes.now c.args.out.now.items (measures_in c.args.measures.now));
}

pub defined-requires : goal.defined-requires
defined-requires c =
    let l = c.loop-measure in
    let xs = c.args.measures.now in
    let x = c.measure-item.result in
    let rest = measures_in (drop (l.measure-index + 1) xs) in
    (member_part c.args.terms.now (measure_of x) rest l.nodes (subst (AreOver l.nodes c.args.terms.now) (ap measures_in (drop_next xs l.measure-index x c.measure-item.is c.loop-measure-test.true)) l.invariant.over)).over

pub loop-measure-preserved : goal.loop-measure-preserved
loop-measure-preserved c =
    let l = c.loop-measure in
    let xs = c.args.measures.now in
    let x = c.measure-item.result in
    let rest = measures_in (drop (l.measure-index + 1) xs) in
    let is : measures_in (drop l.measure-index xs) ≡ measure_of x ∷ rest = ap measures_in (drop_next xs l.measure-index x c.measure-item.is c.loop-measure-test.true) in
    let over = subst (AreOver l.nodes c.args.terms.now) is l.invariant.over in
    let going = subst (Measuring (trees_in c.args.nodes.now c.args.terms.now) c.args.nodes.now l.nodes l.members.items c.args.out.now.items l.out.items (measures_in xs)) is l.invariant.going in
    record {
      over = members_left c.args.terms.now (measure_of x) rest l.nodes c.defined.new.nodes c.defined.ensures.grows over;
      going = subst (λ ms. Measuring (trees_in c.args.nodes.now c.args.terms.now) c.args.nodes.now c.defined.new.nodes ms c.args.out.now.items c.defined.new.out.items (measures_in xs) rest) (sym c.in_ok-push.ensures.items)
          (measure_next c.args.terms.now (measure_of x) rest c.args.nodes.now l.nodes c.defined.new.nodes l.members.items c.args.out.now.items l.out.items c.defined.new.out.items (measures_in xs) c.in_ok-value.value c.requires over going c.in_ok-value.ensures.gives);
    }

pub returns : goal.returns
returns c =
    let l = c.loop-measure in
    let xs = c.args.measures.now in
    record {
      measures = measure_ends (trees_in c.args.nodes.now c.args.terms.now) c.args.nodes.now l.nodes l.members.items c.args.out.now.items l.out.items (measures_in xs)
          (subst (λ ys. Measuring (trees_in c.args.nodes.now c.args.terms.now) c.args.nodes.now l.nodes l.members.items c.args.out.now.items l.out.items (measures_in xs) (measures_in ys)) (drop_all l.measure-index xs c.loop-measure-test.false) l.invariant.going);
      grows = c.loop-measure.invariant.going.grows;
      begins = c.loop-measure.invariant.going.begins;
    }

pub returns-in_err-value : goal.returns-in_err-value
returns-in_err-value c = record { measures = search rules; grows = grows_then _ _ _ c.loop-measure.invariant.going.grows c.defined.ensures.grows; begins = front_then c.args.out.now.items c.loop-measure.out.items c.defined.new.out.items c.loop-measure.invariant.going.begins c.defined.ensures.begins }

pub returns-in_err-push : goal.returns-in_err-push
returns-in_err-push c = record { measures = search rules; grows = grows_then _ _ _ c.loop-measure.invariant.going.grows c.defined.ensures.grows; begins = front_then c.args.out.now.items c.loop-measure.out.items c.defined.new.out.items c.loop-measure.invariant.going.begins c.defined.ensures.begins }
