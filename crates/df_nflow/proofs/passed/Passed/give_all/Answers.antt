use Rattle.df_nflow.proofs.Words.{◌+◌, ℕ, List, [], map, drop, get_or, length, ap, ◌∙◌, subst, rules, drop_all, Ty, target_of, DeclaredTarget, trees_at, grows_not, grows_then, locals_stay, grown_tree, standing_of, are_targets_over, target_types, index_below, give_all}
use Rattle.df_lang.specs.declared.ty.Ty.TheVariants as tys
use Rattle.df_nflow.proofs.Going.{moving_done}
use Rattle.df_nlocals.proofs.Once.{is_met}
use Rattle.df_nflow.proofs.Targets.{Giving, giving_from, turn, giving_turn}
use Rattle.df_nflow.proofs.passed.Passed.give_all.Goals as goal

abbrev nothing : DeclaredTarget
nothing = record { local = 0; name = 0; pos = record { line = 0; col = 0 }; ty = tys.Newtype 0 }

pub loop-i-init : goal.loop-i-init
loop-i-init c = record {
  grows = grows_not c.args.self.now.ledger.nodes;
  over = c.requires.targets;
  locals = c.requires.terms;
  giving = giving_from (standing_of c.args.self.now) (map target_of c.args.targets.now) (trees_at c.args.self.now.ledger.nodes c.args.terms.now) c.new-named.result.keys (λ q. ap (λ (ks : List ℕ). is_met ks q) c.new-named.ensures.empty);
}

pub offset_bounds-terms-i : goal.offset_bounds-terms-i
offset_bounds-terms-i c =
    let l = c.loop-i in
    let less = (turn l.self.ledger.nodes l.self.types.items c.args.targets.now c.args.terms.now l.i c.loop-i-test.true nothing l.invariant.over l.invariant.locals).less in
    search (rules, less)

pub bounds-terms-i : goal.bounds-terms-i
bounds-terms-i c =
    let l = c.loop-i in
    (turn l.self.ledger.nodes l.self.types.items c.args.targets.now c.args.terms.now l.i c.loop-i-test.true nothing l.invariant.over l.invariant.locals).less

pub give_one-requires-clause-local : goal.give_one-requires-clause-local
give_one-requires-clause-local c =
    let l = c.loop-i in
    (turn l.self.ledger.nodes l.self.types.items c.args.targets.now c.args.terms.now l.i c.loop-i-test.true nothing l.invariant.over l.invariant.locals).place

pub give_one-requires-clause-term : goal.give_one-requires-clause-term
give_one-requires-clause-term c =
    let l = c.loop-i in
    (turn l.self.ledger.nodes l.self.types.items c.args.targets.now c.args.terms.now l.i c.loop-i-test.true nothing l.invariant.over l.invariant.locals).term

pub loop-i-preserved : goal.loop-i-preserved
loop-i-preserved c =
    let s = c.args.self.now in
    let l = c.loop-i in
    let xs = c.args.targets.now in
    let ns = c.args.terms.now in
    let x = get_or xs l.i nothing in
    let old = s.ledger.nodes in
    let here = l.self.ledger.nodes in
    let new = c.give_one.new.self in
    let t = turn here l.self.types.items xs ns l.i c.loop-i-test.true nothing l.invariant.over l.invariant.locals in
    let moves = c.in_ok-give_one.ensures.moves in
    let tree = grown_tree old here l.invariant.grows (get_or ns l.i 0) (index_below (length old) ns l.i c.requires.terms.below t.less) in
    record {
      grows = grows_then old here new.ledger.nodes l.invariant.grows c.give_one.ensures.grows;
      over = ap (λ (ts : List Ty). are_targets_over ts (map target_of (drop (l.i + 1) xs))) moves.types ∙ t.over;
      locals = locals_stay here new.ledger.nodes (target_types (map target_of (drop (l.i + 1) xs))) (drop (l.i + 1) ns) c.give_one.ensures.grows t.locals;
      giving = giving_turn old here l.self.types.items xs ns l.i x (standing_of s) (standing_of l.self) (standing_of new) _ l.named.keys c.insert.new.self.keys c.in_ok-is_new.is_new t tree l.invariant.giving c.in_ok-is_new.ensures.added c.in_ok-is_new.ensures.updates.0 moves;
    }

pub returns-clause-moves : goal.returns-clause-moves
returns-clause-moves c =
    let s = c.args.self.now in
    let l = c.loop-i in
    let old = s.ledger.nodes in
    let whole = give_all [] (map target_of c.args.targets.now) (trees_at old c.args.terms.now) (standing_of s).fresh (standing_of s).way in
    moving_done (standing_of s) (standing_of l.self) whole
    (subst (λ (ts : List DeclaredTarget). Giving (standing_of s) whole (standing_of l.self) (map target_of ts) (trees_at old (drop l.i c.args.terms.now)) l.named.keys) (drop_all l.i c.args.targets.now c.loop-i-test.false) l.invariant.giving).moving

-- ---- on every way out

pub returns-in_err-is_new-clause-grows : goal.returns-in_err-is_new-clause-grows
returns-in_err-is_new-clause-grows c = c.loop-i.invariant.grows

pub returns-in_err-give_one-clause-grows : goal.returns-in_err-give_one-clause-grows
returns-in_err-give_one-clause-grows c = grows_then _ _ _ c.loop-i.invariant.grows c.give_one.ensures.grows

pub returns-clause-grows : goal.returns-clause-grows
returns-clause-grows c = c.loop-i.invariant.grows
