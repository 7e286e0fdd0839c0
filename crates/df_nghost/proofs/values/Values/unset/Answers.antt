use Rattle.std.proofs.Common.{◌∙◌, false, set, rules, sym, arith}
use Rattle.df_nghost.specs.mirror.Listed.{holds}
use Rattle.df_nghost.proofs.Counting.{set_none, unset_more, unset_same, at_most}
use Rattle.df_nghost.proofs.values.Values.unset.Goals as goal

pub overflow_add-self : goal.overflow_add-self
overflow_add-self c =
    let before = c.args.self.now in
    let more = unset_more before.listed.items c.args.local before.parameters before.results (search rules) (search rules) in
    let small = at_most (holds (set before.listed.items c.args.local false)) before.parameters before.results in
    omega (arith, before.counted, more, small, c.well_formed)

pub invariant_of-self : goal.invariant_of-self
invariant_of-self c =
    let before = c.args.self.now in
    let more = unset_more before.listed.items c.args.local before.parameters before.results (search rules) (search rules) in
    record { counted = omega (arith, before.counted, more) }

pub invariant_of-self-else-is_result : goal.invariant_of-self-else-is_result
invariant_of-self-else-is_result c =
    let before = c.args.self.now in
    record { counted = before.counted ∙ sym (unset_same before.listed.items c.args.local before.parameters before.results (search rules)) }

pub returns-else-holds : goal.returns-else-holds
returns-else-holds c = sym (set_none c.args.self.now.listed.items c.args.local (search rules))
