use Rattle.df_nflow.proofs.Words.{◌≡◌, ◌<◌, ◌+◌, [], ◌∷◌, List, Option, drop, get_or, length, sym, ap, ◌∙◌, subst, arith, drop_all, get_or_default, Ty, Node, IsTerm, tree_at, trees_at, path_in, drop_next, over, saying, Term, sort_of_type, take_all, standing_of, at_path, Moves, are_at, changed_in, DeclaredChanged}
use Rattle.df_nflow.proofs.Arriving.{joined_within, term_joined}
use Rattle.df_nflow.proofs.Changes.{kept_of}
use Rattle.df_nflow.proofs.Going.{Moving, moving_done}
use Rattle.df_nflow.proofs.Together.{here_changed, behind_changed, at_next, there_next, taking_next, moves_on_path}
use Rattle.df_nflow.proofs.passed.Passed.take.Goals as goal

pub index-requires : goal.index-requires
index-requires c =
    let old = c.args.self.now in
    let l = c.loop-place in
    let way = c.args.way.now in
    let there = (there_next c.args.changed.now l.place c.loop-place-test.true _ l.invariant.there).0 in
    let within = joined_within old.ledger.nodes old.types.items way l.place _ there.0 in
    omega (arith, within, way.terms.ok.0, way.terms.ok.1)

pub give-requires : goal.give-requires
give-requires c =
    let old = c.args.self.now in
    let l = c.loop-place in
    let nodes = old.ledger.nodes in
    let x = here_changed c.args.changed.now l.place c.loop-place-test.true in
    let there = (there_next c.args.changed.now l.place c.loop-place-test.true _ l.invariant.there).0 in
    let term = c.index.result.now in
    let is = subst (IsTerm (sort_of_type x.ty) nodes) (sym c.index.ensures) (term_joined nodes old.types.items c.args.way.now l.place (sort_of_type x.ty) there.0 term c.requires.way) in
    kept_of l.self.ledger.nodes l.self.types.items x.local x.ty term (at_next c.args.changed.now l.place c.loop-place-test.true l.self.types.items l.invariant.at).0 (subst (λ (ns : List Node). IsTerm (sort_of_type x.ty) ns term) (sym l.invariant.nodes) is)

pub loop-place-preserved : goal.loop-place-preserved
loop-place-preserved c =
    let old = c.args.self.now in
    let l = c.loop-place in
    let nodes = old.ledger.nodes in
    let xs = c.args.changed.now in
    let ns = c.args.way.now.terms.items in
    let lt = c.loop-place-test.true in
    let there = there_next xs l.place lt _ l.invariant.there in
    let within : l.place < length ns = joined_within nodes old.types.items c.args.way.now l.place _ there.0.0 in
    let t = get_or ns l.place 0 in
    let is : drop l.place ns ≡ t ∷ drop (l.place + 1) ns = drop_next ns l.place t (get_or_default ns l.place 0 t within) within in
    let term = c.index.result.now in
    let number : term ≡ t = c.index.ensures ∙ get_or_default ns l.place term 0 within in
    let moves = c.in_ok-give.ensures.moves in
    record {
      nodes = c.in_ok-give.ensures.nodes ∙ l.invariant.nodes;
      at = ap (λ (ts : List Ty). are_at ts (behind_changed xs l.place lt)) moves.types ∙ (at_next xs l.place lt l.self.types.items l.invariant.at).1;
      there = there.1;
      moving = taking_next xs l.place lt (standing_of old) (standing_of l.self) (standing_of c.give.new.self) _ (tree_at l.self.ledger.nodes term) (tree_at nodes t) (trees_at nodes (drop l.place ns)) (trees_at nodes (drop (l.place + 1) ns))
          (ap (trees_at nodes) is) (λ i. tree_at (l.invariant.nodes i) (number i)) l.invariant.moving moves;
    }

pub returns-clause-moves : goal.returns-clause-moves
returns-clause-moves c =
    let s = c.args.self.now in
    let old = standing_of s in
    let l = c.loop-place in
    let here = standing_of l.self in
    let way = c.args.way.now in
    let terms = trees_at s.ledger.nodes way.terms.items in
    let env = take_all (changed_in c.args.changed.now) terms old.way.env in
    let left = trees_at s.ledger.nodes (drop l.place way.terms.items) in
    let moving = subst (λ (ds : List DeclaredChanged). Moving old (saying [] old.fresh (over env old.way)) here (saying [] here.fresh (over (take_all (changed_in ds) left here.way.env) here.way))) (drop_all l.place c.args.changed.now c.loop-place-test.false) l.invariant.moving in
    let other = path_in s.ledger.nodes way.path in
    subst (λ (path : Option Term). Moves old (saying [] old.fresh (record { env = env; path = other })) (at_path path here)) (ap (λ (ns : List Node). path_in ns way.path) (sym l.invariant.nodes))
    (moves_on_path old here env old.way.path other (moving_done old here _ moving))
