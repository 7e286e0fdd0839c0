use Rattle.std.proofs.Common.{◌≡◌, ◌+◌, ◌-◌, ◌≤◌, ◌++◌, take, drop, length, arith, rules, length-drop}
use Rattle.std.proofs.lemmas.List.{length-reverse}
use Rattle.df_nmach.specs.View.{value_of, values_of}
use Rattle.df_nvm.proofs.Lists.{length-map_of}
use Rattle.df_nvm.proofs.Values.{removed_below, removed_locals, removed_operands}
use Rattle.df_nvm.proofs.stack.Stack.leave.Goals as goal

pub returns-clause-below : goal.returns-clause-below
returns-clause-below c =
    let s = c.args.self.now in
    let e : c.drop.new.self.0.items ≡ take s.base s.values.items ++ drop (c.len.result - c.args.count) s.values.items = search rules in
    removed_below s.base c.args.base _ s.values.items _ (omega (arith, c.requires.stands)) e

pub returns-clause-locals : goal.returns-clause-locals
returns-clause-locals c =
    let s = c.args.self.now in
    let e : c.drop.new.self.0.items ≡ take s.base s.values.items ++ drop (c.len.result - c.args.count) s.values.items = search rules in
    removed_locals s.base c.args.base c.args.locals _ s.values.items _ c.requires.stands e

pub returns-clause-operands : goal.returns-clause-operands
returns-clause-operands c =
    let s = c.args.self.now in
    let f = s.base + s.locals in
    let all = values_of s.values.items in
    let e : c.drop.new.self.0.items ≡ take s.base s.values.items ++ drop (c.len.result - c.args.count) s.values.items = search rules in
    let le : f + c.args.count ≤ length s.values.items = omega (arith, s.stands, length-map_of value_of s.values.items, length-reverse (drop f all), length-drop f all, c.requires.count) in
    removed_operands s.base c.args.base c.args.locals f c.args.count (c.len.result - c.args.count) s.values.items _ c.requires.stands le (omega arith) e
