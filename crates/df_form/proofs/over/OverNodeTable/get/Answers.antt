use Rattle.std.proofs.Common.{◌<◌, ◌≤◌, ◌-◌, ◌∙◌, sym, ap, subst, slice_get}
use Rattle.df_form.specs.Sorting.{IsTable}
use Rattle.df_form.proofs.Fronts.{get_ahead, get_past, sorted-read}
use Rattle.df_form.proofs.over.OverNodeTable.get.Goals as goal

pub returns-then-number-count-clause-node : goal.returns-then-number-count-clause-node
returns-then-number-count-clause-node c =
    let less = subst (λ k. c.args.number < k) c.len-count.ensures.len c.if-number-count.true in
    c.get.ensures.node ∙ sym (get_ahead c.self.inside.front c.self.inside.own c.args.number less) ∙ ap (λ nodes. slice_get nodes c.args.number) c.self.view_is

pub returns-then-number-count-clause-sorted : goal.returns-then-number-count-clause-sorted
returns-then-number-count-clause-sorted c = sorted-read c.args.self.now c.args.number c.get.result (subst IsTable c.self.view_is c.self.invariant.0) (returns-then-number-count-clause-node c)

pub returns-else-number-count-clause-node : goal.returns-else-number-count-clause-node
returns-else-number-count-clause-node c =
    let own = c.self.inside.own in
    let past = subst (λ k. k ≤ c.args.number) c.len-count.ensures.len c.if-number-count.false in
    c.node.ensures
    ∙ ap (λ k. slice_get own (c.args.number - k)) c.len-count.ensures.len
    ∙ sym (get_past c.self.inside.front own c.args.number past)
    ∙ ap (λ nodes. slice_get nodes c.args.number) c.self.view_is

pub returns-else-number-count-clause-sorted : goal.returns-else-number-count-clause-sorted
returns-else-number-count-clause-sorted c = sorted-read c.args.self.now c.args.number c.node.result (subst IsTable c.self.view_is c.self.invariant.0) (returns-else-number-count-clause-node c)
