use Rattle.std.proofs.Common.{◌≡◌, length, subst, arith}
use Rattle.df_trail.specs.declared.trail.Retreat.{Retreat}
use Rattle.df_trail.specs.Trail.{Retreats, Turns}
use Rattle.df_search.proofs.Turning.{turned_searches, ended_derives, spent}
use Rattle.df_search.proofs.searching.State.close.Goals as goal

pub returns-in-Ended-clause-closes : goal.returns-in-Ended-clause-closes
returns-in-Ended-clause-closes c = λ s rounds finishes is_branch few.
    let counted = c.in_ok-count.ensures.counts s rounds finishes.front c.args.conflict finishes.is is_branch in
    ended_derives s finishes.front c.retreat.new.derivation
    (subst (λ (r : Retreat). Retreats s c.retreat.new.derivation c.retreat.new.self finishes.front r) c.in-Ended.is (c.in_ok-retreat.ensures.retreats s finishes.front counted.closed))

pub returns-then-len-steps-clause-closes : goal.returns-then-len-steps-clause-closes
returns-then-len-steps-clause-closes c = λ s rounds finishes is_branch few.
    let counted = c.in_ok-count.ensures.counts s rounds finishes.front c.args.conflict finishes.is is_branch in
    let has = subst (λ (r : Retreat). Retreats s c.retreat.new.derivation c.retreat.new.self finishes.front r) c.in-Turned.is (c.in_ok-retreat.ensures.retreats s finishes.front counted.closed) in
    let turned_it = subst (Turns c.count.new.self.trail c.retreat.new.self) c.in-Turned.is c.in_ok-retreat.ensures.turns in
    let searching = turned_searches s rounds finishes.front c.args.conflict c.count.new.self counted c.retreat.new.derivation c.retreat.new.self c.in_ok-retreat.ensures.nodes has turned_it in
    let same : length c.count.new.self.closed.items ≡ c.args.steps = omega (arith, c.in_ok-count.ensures.one, c.len.ensures, few) in
    spent s rounds _ _ c.args.steps searching same

pub returns-else-len-steps-clause-closes : goal.returns-else-len-steps-clause-closes
returns-else-len-steps-clause-closes c = λ s rounds finishes is_branch few.
    let counted = c.in_ok-count.ensures.counts s rounds finishes.front c.args.conflict finishes.is is_branch in
    let has = subst (λ (r : Retreat). Retreats s c.retreat.new.derivation c.retreat.new.self finishes.front r) c.in-Turned.is (c.in_ok-retreat.ensures.retreats s finishes.front counted.closed) in
    let turned_it = subst (Turns c.count.new.self.trail c.retreat.new.self) c.in-Turned.is c.in_ok-retreat.ensures.turns in
    let searching = turned_searches s rounds finishes.front c.args.conflict c.count.new.self counted c.retreat.new.derivation c.retreat.new.self c.in_ok-retreat.ensures.nodes has turned_it in
    (record { all = _; is = searching }, omega (arith, c.len.ensures))
