use Rattle.std.proofs.Common.{◌∙◌, rules, sym, arith}
use Rattle.df_nghost.proofs.Counting.{put_less, put_same}
use Rattle.df_nghost.proofs.values.Values.put.Goals as goal

pub overflow_sub-self : goal.overflow_sub-self
overflow_sub-self c =
    let before = c.args.self.now in
    let less = put_less before.listed.items c.list.new.listed.items c.args.local before.parameters before.results c.list.ensures.same (search rules) c.requires (search rules) in
    omega (arith, before.counted, less)

pub invariant_of-self-then-is_result : goal.invariant_of-self-then-is_result
invariant_of-self-then-is_result c =
    let before = c.args.self.now in
    let less = put_less before.listed.items c.list.new.listed.items c.args.local before.parameters before.results c.list.ensures.same (search rules) c.requires (search rules) in
    record { counted = omega (arith, before.counted, less) }

pub invariant_of-self-else-is_result : goal.invariant_of-self-else-is_result
invariant_of-self-else-is_result c =
    let before = c.args.self.now in
    record { counted = before.counted ∙ sym (put_same before.listed.items c.list.new.listed.items c.args.local before.parameters before.results c.list.ensures.same (search rules)) }
