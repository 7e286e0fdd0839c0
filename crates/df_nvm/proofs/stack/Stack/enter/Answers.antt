use Rattle.std.proofs.Common.{◌+◌, ◌-◌, ◌≤◌, ◌∙◌, ap, List, take, drop, length, pos, arith, length-drop}
use Rattle.std.proofs.lemmas.List.{length-reverse, length-replicate}
use Rattle.df_nmach.specs.Value as pure
use Rattle.df_nmach.specs.View.{value_of, values_of}
use Rattle.df_nvm.proofs.Lists.{length-map_of}
use Rattle.df_nvm.proofs.Segments.{entered_below, entered_locals, entered_operands}
use Rattle.df_nvm.proofs.stack.Stack.enter.Goals as goal

pub returns-clause-below : goal.returns-clause-below
returns-clause-below c =
    let s = c.args.self.now in
    let all = values_of s.values.items in
    let base = c.len.result - c.args.parameters in
    let m = length-map_of value_of s.values.items in
    let le : s.base + s.locals + c.args.parameters ≤ length all = omega (arith, s.stands, m, length-reverse (drop (s.base + s.locals) all), length-drop (s.base + s.locals) all, c.requires) in
    ap (take base) c.in_ok-push_zeros.ensures.ok ∙ entered_below s.base s.locals c.args.parameters base all _ le (omega (arith, m))

pub returns-clause-locals : goal.returns-clause-locals
returns-clause-locals c =
    let s = c.args.self.now in
    let f = s.base + s.locals in
    let all = values_of s.values.items in
    let base = c.len.result - c.args.parameters in
    let m = length-map_of value_of s.values.items in
    let le : f + c.args.parameters ≤ length all = omega (arith, s.stands, m, length-reverse (drop f all), length-drop f all, c.requires) in
    ap (λ (p : List pure.Value). take (c.args.parameters + c.args.locals) (drop base p)) c.in_ok-push_zeros.ensures.ok
    ∙ entered_locals f c.args.parameters c.args.locals base all _ le (length-replicate c.args.locals (pure.Number (pos 0))) (omega (arith, m))

pub returns-clause-operands : goal.returns-clause-operands
returns-clause-operands c =
    let s = c.args.self.now in
    let f = s.base + s.locals in
    let all = values_of s.values.items in
    let m = length-map_of value_of s.values.items in
    let le : f + c.args.parameters ≤ length all = omega (arith, s.stands, m, length-reverse (drop f all), length-drop f all, c.requires) in
    entered_operands _ (values_of c.push_zeros.new.values.items) (omega (arith, length-map_of value_of c.push_zeros.new.values.items, c.in_ok-push_zeros.ensures.len, m))
