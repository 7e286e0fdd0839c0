use Rattle.df_nflow.proofs.Words.{◌≡◌, ◌+◌, ◌-◌, ◌<◌, [], ◌∷◌, List, length, drop, get_or, ap, ◌∙◌, subst, arith, get_or_default, Node, tree_at, drop_next, over, with_term, saying, standing_of, Moves, kept_in, all_kept_in, DeclaredKept}
use Rattle.df_nflow.proofs.Trailing.{replayed}
use Rattle.df_nflow.proofs.passed.Passed.replay.Goals as goal

pub loop-place-preserved : goal.loop-place-preserved
loop-place-preserved c =
    let l = c.loop-place in
    let xs = c.args.ahead.now in
    let p = l.place - 1 in
    let nothing : DeclaredKept = record { local = 0; term = 0 } in
    let k = get_or xs p nothing in
    let less : p < length xs = omega (arith, c.loop-place-test.true, l.auto.place) in
    let next : p + 1 ≡ l.place = omega (arith, c.loop-place-test.true) in
    let nodes = c.args.self.now.ledger.nodes in
    let is : all_kept_in nodes (drop p xs) ≡ kept_in nodes k ∷ all_kept_in nodes (drop l.place xs) =
    ap (all_kept_in nodes) (drop_next xs p k (get_or_default xs p nothing k less) less ∙ ap (λ n. k ∷ drop n xs) next) in
    let here = standing_of l.self in
    record {
      nodes = c.give.ensures.nodes ∙ l.invariant.nodes;
      moves = replayed (standing_of c.args.self.now) here (standing_of c.give.new.self) (kept_in nodes k) (all_kept_in nodes (drop l.place xs)) (all_kept_in nodes (drop p xs)) is l.invariant.moves
          (subst (λ (ns : List Node). Moves here (saying [] here.fresh (over (with_term here.way.env k.local (tree_at ns k.term)) here.way)) (standing_of c.give.new.self)) l.invariant.nodes c.in_ok-give.ensures.moves);
    }
