use Rattle.std.proofs.Common.{List, ℕ, length, refl, sym, subst, ◌∙◌}
use Rattle.df_classes.specs.mirror.State.{label_of}
use Rattle.df_classes.specs.mirror.Closure.{Joins}
use Rattle.df_classes.specs.PartitionView.{state_of}
use Rattle.df_rules.proofs.Results.{on_ok}
use Rattle.df_classes.proofs.Holds.{equates_already, equates_joined, ready_joined, can_join}
use Rattle.df_classes.proofs.Retreating.{extends_none, extends_then}
use Rattle.df_classes.proofs.holding.equate.Goals as goal

pub returns-then-left-right-clause-equates : goal.returns-then-left-right-clause-equates
returns-then-left-right-clause-equates c =
    equates_already c.args.nodes.now c.args.partition.now c.args.pair c.requires.ready (sym c.label-left.ensures ∙ c.if-left-right.true ∙ c.label-right.ensures)

pub returns-then-left-right-clause-extends : goal.returns-then-left-right-clause-extends
returns-then-left-right-clause-extends c = extends_none c.args.partition.now c.args.partition.now refl refl refl

pub join-requires : goal.join-requires
join-requires c =
    can_join c.args.nodes.now (state_of c.args.partition.now) c.args.pair c.requires.ready c.requires.left c.requires.right (λ e. c.if-left-right.false (c.label-left.ensures ∙ e ∙ sym c.label-right.ensures))

pub close-requires-clause-ready : goal.close-requires-clause-ready
close-requires-clause-ready c = ready_joined c.args.nodes.now c.args.users.now _ _ (state_of c.args.partition.now) (state_of c.join.new.partition) _ _ c.requires.ready c.in_ok-join.ensures.joins

pub returns-clause-equates : goal.returns-clause-equates
returns-clause-equates c =
    let old = c.args.partition.now in
    let s = state_of old in
    let pair = c.args.pair in
    let mid = c.join.new.partition in
    let waiting = c.join.new.waiting.items in
    on_ok c.close.result
    (equates_joined c.args.nodes.now c.args.users.now c.requires.users old mid c.close.new.partition pair waiting c.requires.ready
    (subst (λ (before : List ℕ). Joins (length s.labels) c.args.users.now (label_of s pair.left) (label_of s pair.right) s (state_of mid) before waiting) c.new-waiting.ensures.items c.in_ok-join.ensures.joins) c.join.ensures.pairs)
    c.close.ensures.closes

pub returns-clause-extends : goal.returns-clause-extends
returns-clause-extends c = extends_then c.args.partition.now c.join.new.partition c.close.new.partition c.join.ensures.extends c.close.ensures.extends
