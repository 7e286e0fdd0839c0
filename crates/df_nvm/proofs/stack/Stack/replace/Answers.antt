use Rattle.std.proofs.Common.{◌≡◌, ◌+◌, ◌-◌, ◌≤◌, length, take, drop, arith, ap, ◌∙◌, length-drop}
use Rattle.std.proofs.lemmas.List.{length-reverse}
use Rattle.df_nmach.specs.View.{value_of, values_of}
use Rattle.df_nvm.proofs.Lists.{length-map_of}
use Rattle.df_nvm.proofs.Values.{replaced_below, replaced_locals, replaced_operands}
use Rattle.df_nvm.proofs.stack.Stack.replace.Goals as goal

pub returns-clause-ok : goal.returns-clause-ok
returns-clause-ok c =
    let s = c.args.self.now in
    let f = s.base + s.locals in
    let start = c.len.result - c.args.count in
    let le : f + c.args.count ≤ length s.values.items = omega (arith, s.stands, length-map_of value_of s.values.items, length-reverse (drop f (values_of s.values.items)), length-drop f (values_of s.values.items), c.requires) in
    let at : start ≡ length s.values.items - c.args.count = omega (arith, ap length c.reserve.ensures.items) in
    replaced_operands f c.args.count start s.values.items _ _ c.args.value le at (c.truncate.ensures.items ∙ ap (take start) c.reserve.ensures.items) c.push_reserved.ensures.items

pub returns-clause-below : goal.returns-clause-below
returns-clause-below c =
    let s = c.args.self.now in
    let f = s.base + s.locals in
    let start = c.len.result - c.args.count in
    let le : f + c.args.count ≤ length s.values.items = omega (arith, s.stands, length-map_of value_of s.values.items, length-reverse (drop f (values_of s.values.items)), length-drop f (values_of s.values.items), c.requires) in
    let at : start ≡ length s.values.items - c.args.count = omega (arith, ap length c.reserve.ensures.items) in
    replaced_below s.base start s.values.items _ _ c.args.value (omega arith) (omega arith) (c.truncate.ensures.items ∙ ap (take start) c.reserve.ensures.items) c.push_reserved.ensures.items

pub returns-clause-locals : goal.returns-clause-locals
returns-clause-locals c =
    let s = c.args.self.now in
    let f = s.base + s.locals in
    let start = c.len.result - c.args.count in
    let le : f + c.args.count ≤ length s.values.items = omega (arith, s.stands, length-map_of value_of s.values.items, length-reverse (drop f (values_of s.values.items)), length-drop f (values_of s.values.items), c.requires) in
    let at : start ≡ length s.values.items - c.args.count = omega (arith, ap length c.reserve.ensures.items) in
    replaced_locals s.base s.locals start s.values.items _ _ c.args.value (omega arith) (omega arith) (c.truncate.ensures.items ∙ ap (take start) c.reserve.ensures.items) c.push_reserved.ensures.items
