use Rattle.std.proofs.Common.{◌≡◌, ◌∙◌, ◌++◌, ◌<◌, ◌^◌, ◌-◌, sym, ap, subst, arith, take, length, length-take}
use Rattle.df_form.specs.Sorting.{IsTable}
use Rattle.df_form.specs.Offset.{offsets}
use Rattle.df_form.proofs.Tables.{table-take}
use Rattle.df_form.proofs.Fronts.{take_both}
use Rattle.df_form.proofs.Offsets.{fewer-behind}
use Rattle.df_form.proofs.over.OverArena.cut.Goals as goal

-- how many of its own nodes are left
count : (c : goal.After-truncate-2) → c.saturating_sub-left.result ≡ c.args.len - length c.self.inside.front
count c = c.saturating_sub-left.ensures ∙ ap (λ k. c.args.len - k) c.len-count.ensures.len

own : (c : goal.After-truncate-2) → c.truncate.new.self ≡ take (c.args.len - length c.self.inside.front) c.self.inside.own
own c = c.truncate.ensures ∙ ap (λ k. take k c.self.inside.own) (count c)

left : (c : goal.After-truncate-2) → c.cut.new.self ++ c.truncate.new.self ≡ take c.args.len c.args.self.now
left c = (λ i. c.cut.ensures i ++ own c i) ∙ sym (take_both c.self.inside.front c.self.inside.own c.args.len) ∙ ap (take c.args.len) c.self.view_is

known : (c : goal.After-truncate-2) → offsets (c.cut.new.self ++ c.truncate.new.self) ≡ offsets c.cut.new.self ++ c.truncate-2.new.self.items
known c =
    let items = c.truncate-2.ensures.items ∙ ap (λ k. take k c.self.inside.offsets.items) (count c) in
    (λ i. offsets (c.cut.ensures i ++ own c i))
    ∙ fewer-behind c.self.inside.front c.self.inside.own c.self.inside.offsets.items c.args.len c.self.invariant.2
    ∙ (λ i. offsets (sym c.cut.ensures i) ++ sym items i)

pub invariant_of-self : goal.invariant_of-self
invariant_of-self c =
    let table = table-take c.args.self.now c.args.len (subst IsTable c.self.view_is c.self.invariant.0) in
    let small = subst (λ nodes. length nodes < 2 ^ 63) c.self.view_is c.self.invariant.1 in
    (subst IsTable (sym (left c)) table, omega (arith, ap length (left c), length-take c.args.len c.args.self.now, small), known c)

pub returns : goal.returns
returns c = left c
