use Rattle.std.proofs.Common.{◌≡◌, ◌++◌, ◌∷◌, [], arith, rules}
use Rattle.df_nvm.specs.Frames.{frame_at}
use Rattle.df_nvm.specs.Stack.{below_of}
use Rattle.df_nvm.proofs.Waiting.{runs_again}
use Rattle.df_nvm.proofs.machine.Machine.give.Goals as goal

pub returns-clause-gives : goal.returns-clause-gives
returns-clause-gives c =
    let m = c.args.self.now in
    let w = c.in-Some.waiting in
    let pops : m.waiting.items ≡ c.pop.new.self.items ++ w ∷ [] = search rules in (
      omega (arith, c.if-count-operands.false, c.operands.ensures),
      frame_at w (below_of m.stack),
      runs_again w c.pop.new.self.items m.waiting.items (below_of m.stack) (below_of c.leave.new.self) pops c.leave.ensures.below,
      (λ i. record { method = w.method; next = w.next; locals = c.leave.ensures.locals i; operands = c.leave.ensures.operands i }),
    )
