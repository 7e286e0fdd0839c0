use Rattle.std.proofs.Common.{◌+◌, ◌≤◌, ◌++◌, ◌∷◌, [], ◌∙◌, ap, List, drop, length, arith}
use Rattle.df_nmach.specs.Step.{after}
use Rattle.df_nmach.specs.View.{method_of}
use Rattle.df_nvm.specs.declared.machine.Waiting.{Waiting}
use Rattle.df_nvm.specs.Frames.{running_of}
use Rattle.df_nvm.specs.Stack.{below_of, locals_of}
use Rattle.df_nvm.proofs.Waiting.{one_more_waits, call_effect}
use Rattle.df_nvm.proofs.machine.Machine.call.Goals as goal

pub returns-clause-enters : goal.returns-clause-enters
returns-clause-enters c =
    let m = c.args.self.now in
    let f = running_of m in
    let method = method_of c.args.method.now in
    let w : Waiting = record { method = m.method; next = m.next + 1; base = c.base.result; locals = c.locals.result } in
    let le : method.parameters ≤ length f.operands = omega (arith, c.if-method-operands.false, c.operands.ensures) in (
      after f (drop method.parameters f.operands),
      call_effect f c.args.number method _ _ le c.in_ok-enter.ensures.locals c.in_ok-enter.ensures.operands,
      one_more_waits w m.waiting.items c.push_reserved.new.self.items (below_of m.stack) (locals_of m.stack) (drop method.parameters f.operands) (below_of c.enter.new.self) c.base.ensures c.locals.ensures (c.push_reserved.ensures.items ∙ ap (λ (l : List Waiting). l ++ w ∷ []) c.reserve.ensures.items) c.in_ok-enter.ensures.below,
    )
