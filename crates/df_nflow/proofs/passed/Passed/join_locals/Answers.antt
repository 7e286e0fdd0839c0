use Rattle.df_nflow.proofs.Words.{List, sym, ap, ◌∙◌, subst, drop_all, Ty, grows_then, sort_of_type, AreThere, join_locals_from, standing_of, are_at, Arrival, AreArrived, arrivals_in, changed_in, DeclaredChanged}
use Rattle.df_nflow.proofs.Going.{Moving, moving_done}
use Rattle.df_nflow.proofs.Waiting.{all_arrived_stay, arrivals_same}
use Rattle.df_nflow.proofs.Together.{here_changed, behind_changed, at_next, there_next, joining_next}
use Rattle.df_nflow.proofs.passed.Passed.join_locals.Goals as goal

pub join_local-requires-clause-there : goal.join_local-requires-clause-there
join_local-requires-clause-there c =
    let old = c.args.self.now in
    let l = c.loop-place in
    let here = here_changed c.args.changed.now l.place c.loop-place-test.true in
    subst (λ (arrivals : List Arrival). AreThere l.place (sort_of_type here.ty) arrivals) (sym (arrivals_same old.ledger.nodes l.self.ledger.nodes l.invariant.grows old.types.items c.args.arrived.now c.requires.arrived))
    (there_next c.args.changed.now l.place c.loop-place-test.true (arrivals_in old.ledger.nodes c.args.arrived.now) l.invariant.there).0

pub loop-place-preserved : goal.loop-place-preserved
loop-place-preserved c =
    let old = c.args.self.now in
    let l = c.loop-place in
    let s = l.self in
    let xs = c.args.changed.now in
    let lt = c.loop-place-test.true in
    let new = c.join_local.new.self in
    let arrivals = arrivals_in old.ledger.nodes c.args.arrived.now in
    let moves = c.in_ok-join_local.ensures.moves in
    record {
      grows = grows_then old.ledger.nodes s.ledger.nodes new.ledger.nodes l.invariant.grows c.join_local.ensures.grows;
      at = ap (λ (ts : List Ty). are_at ts (behind_changed xs l.place lt)) moves.types ∙ (at_next xs l.place lt s.types.items l.invariant.at).1;
      arrived = subst (λ (ts : List Ty). AreArrived new.ledger.nodes ts c.args.arrived.now) (sym moves.types) (all_arrived_stay s.ledger.nodes new.ledger.nodes c.join_local.ensures.grows s.types.items c.args.arrived.now l.invariant.arrived);
      there = (there_next xs l.place lt arrivals l.invariant.there).1;
      moving = joining_next xs l.place lt (standing_of old) (standing_of s) (standing_of new) _ arrivals (arrivals_in s.ledger.nodes c.args.arrived.now)
          (arrivals_same old.ledger.nodes s.ledger.nodes l.invariant.grows old.types.items c.args.arrived.now c.requires.arrived) l.invariant.moving moves;
    }

pub returns-clause-moves : goal.returns-clause-moves
returns-clause-moves c =
    let old = standing_of c.args.self.now in
    let l = c.loop-place in
    let here = standing_of l.self in
    let arrivals = arrivals_in c.args.self.now.ledger.nodes c.args.arrived.now in
    moving_done old here _ (subst (λ (ds : List DeclaredChanged). Moving old (join_locals_from 0 (changed_in c.args.changed.now) arrivals old.fresh old.way.env old.way.path) here (join_locals_from l.place (changed_in ds) arrivals here.fresh here.way.env here.way.path)) (drop_all l.place c.args.changed.now c.loop-place-test.false) l.invariant.moving)

-- ---- on every way out

pub returns-in_err-join_local-clause-grows : goal.returns-in_err-join_local-clause-grows
returns-in_err-join_local-clause-grows c = grows_then _ _ _ c.loop-place.invariant.grows c.join_local.ensures.grows

pub returns-clause-grows : goal.returns-clause-grows
returns-clause-grows c = c.loop-place.invariant.grows
