use Rattle.std.proofs.Common.{◌+◌, ◌-◌, ◌≤◌, drop, length, arith, length-drop}
use Rattle.std.proofs.lemmas.List.{length-reverse}
use Rattle.df_nmach.specs.View.{value_of, values_of}
use Rattle.df_nvm.proofs.Lists.{length-map_of}
use Rattle.df_nvm.proofs.Values.{last_alone}
use Rattle.df_nvm.proofs.stack.Stack.into_top.Goals as goal

pub returns : goal.returns
returns c =
    let s = c.args.self in
    let f = s.base + s.locals in
    let all = values_of s.values.items in
    let le : f + c.args.count ≤ length s.values.items = omega (arith, s.stands, length-map_of value_of s.values.items, length-reverse (drop f all), length-drop f all, c.requires) in
    last_alone f c.args.count (c.len.result - c.args.count) s.values.items _ _ le (omega arith) c.rotate_left.ensures.items c.truncate.ensures.items
