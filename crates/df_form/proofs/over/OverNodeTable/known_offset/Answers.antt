use Rattle.std.proofs.Common.{◌<◌, ◌≤◌, ◌-◌, ◌∙◌, subst, slice_get}
use Rattle.df_form.proofs.Offsets.{ahead-read, behind-read}
use Rattle.df_form.proofs.over.OverNodeTable.known_offset.Goals as goal

pub returns-then-number-count : goal.returns-then-number-count
returns-then-number-count c =
    let less = subst (λ k. c.args.number < k) c.len-count.ensures.len c.if-number-count.true in
    c.offset.ensures ∙ ahead-read c.self.inside.front c.self.inside.own c.args.self.now c.self.inside.offsets.items c.args.number c.self.invariant.2 c.self.view_is less

pub returns-else-number-count : goal.returns-else-number-count
returns-else-number-count c =
    let past = subst (λ k. k ≤ c.args.number) c.len-count.ensures.len c.if-number-count.false in
    c.read.ensures
    ∙ (λ i. slice_get (c.deref.ensures.value i) (c.args.number - c.len-count.ensures.len i))
    ∙ behind-read c.self.inside.front c.self.inside.own c.args.self.now c.self.inside.offsets.items c.args.number c.self.invariant.2 c.self.view_is past
