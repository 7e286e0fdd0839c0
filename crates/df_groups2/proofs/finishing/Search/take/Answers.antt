use Rattle.std.proofs.Common.{◌≡◌, ◌++◌, [], ◌∷◌, map, set, true, false, rules, reverse}
use Rattle.df_groups2.specs.declared.finishing.Step.TheVariants.{Enter, Leave}
use Rattle.df_groups2.specs.GraphView.{targets_of}
use Rattle.df_groups2.specs.Searching.{is_entered}
use Rattle.df_groups2.proofs.Searches.{takes_known, takes_new, takes_last, enter_falls}
use Rattle.df_groups2.proofs.finishing.Search.take.Goals as goal

pub returns-then-has_entered-clause-keeps : goal.returns-then-has_entered-clause-keeps
returns-then-has_entered-clause-keeps c = λ count s.
    let known : is_entered c.args.self.now.entered.items c.in-Enter.vertex ≡ true = search rules in
    takes_known (targets_of c.args.graph.now) count c.args.self.now.entered.items c.args.self.now.steps.items (reverse c.args.self.now.finished.items) c.args.step c.in-Enter.vertex c.in-Enter.is known s

pub returns-in_ok-follow-in-Enter-clause-keeps : goal.returns-in_ok-follow-in-Enter-clause-keeps
returns-in_ok-follow-in-Enter-clause-keeps c = λ count s.
    let free : is_entered c.args.self.now.entered.items c.in-Enter.vertex ≡ false = search rules in
    let marked : c.follow.new.self.entered.items ≡ set c.args.self.now.entered.items c.in-Enter.vertex true = search rules in
    let added : c.follow.new.self.steps.items ≡ (c.args.self.now.steps.items ++ Leave c.in-Enter.vertex ∷ []) ++ map Enter (targets_of c.args.graph.now c.in-Enter.vertex) = search rules in
    let same : reverse c.follow.new.self.finished.items ≡ reverse c.args.self.now.finished.items = search rules in
    takes_new (targets_of c.args.graph.now) count c.args.self.now.entered.items c.follow.new.self.entered.items c.args.self.now.steps.items c.follow.new.self.steps.items
    (reverse c.args.self.now.finished.items) (reverse c.follow.new.self.finished.items) c.args.step c.in-Enter.vertex c.in-Enter.is free marked added same s

pub returns-in_ok-follow-in-Enter-clause-falls : goal.returns-in_ok-follow-in-Enter-clause-falls
returns-in_ok-follow-in-Enter-clause-falls c =
    let free : is_entered c.args.self.now.entered.items c.in-Enter.vertex ≡ false = search rules in
    let marked : c.follow.new.self.entered.items ≡ set c.args.self.now.entered.items c.in-Enter.vertex true = search rules in
    let added : c.follow.new.self.steps.items ≡ (c.args.self.now.steps.items ++ Leave c.in-Enter.vertex ∷ []) ++ map Enter (targets_of c.args.graph.now c.in-Enter.vertex) = search rules in
    rw (marked, added) (enter_falls (targets_of c.args.graph.now) c.args.self.now.entered.items c.args.self.now.steps.items c.in-Enter.vertex free)

pub returns-in_ok-push-in-Leave-clause-keeps : goal.returns-in_ok-push-in-Leave-clause-keeps
returns-in_ok-push-in-Leave-clause-keeps c = λ count s.
    takes_last (targets_of c.args.graph.now) count c.args.self.now.entered.items c.args.self.now.steps.items c.args.self.now.finished.items c.push-in-Leave.new.self.items
    c.args.step c.in-Leave.vertex c.in-Leave.is c.in_ok-push-in-Leave.ensures.items s
