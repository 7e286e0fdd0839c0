use Rattle.std.proofs.Common.{sym, ◌∙◌, rules}
use Rattle.df_nmach.specs.View.{heap_of, code_of}
use Rattle.df_nvm.specs.Frames.{running_of, waiting_of, state_of}
use Rattle.df_nvm.specs.Room.{next_needs_no_more}
use Rattle.df_nvm.specs.Stack.{operands_of}
use Rattle.df_nvm.proofs.Filling.{room_left, frames_left}
use Rattle.df_nvm.proofs.Reached.{keeps, never_broken}
use Rattle.df_nvm.proofs.vm.Vm.advance.Goals as goal

pub invariant_of-self : goal.invariant_of-self
invariant_of-self g c =
    let m = c.args.self.now.machine in
    record { never_faults = keeps c.turn.result (code_of c.args.self.now.code.now) (heap_of m.heap) (running_of m) (waiting_of m) (state_of c.turn.new.machine) (operands_of c.turn.new.machine.stack) _ _ c.args.self.now.never_faults c.turn.ensures.turns }

pub unreachable-requires : goal.unreachable-requires
unreachable-requires g c =
    let m = c.args.self.now.machine in
    let broken = rw c.in-Err-Broken.field-0-is at c.in-Err-Broken.ensures.turns in
    never_broken (code_of c.args.self.now.code.now) (heap_of m.heap) (running_of m) (waiting_of m) c.args.self.now.never_faults broken

pub returns-in-Err-Memory-clause-within : goal.returns-in-Err-Memory-clause-within
returns-in-Err-Memory-clause-within g c bare stays same =
    let m = c.args.self.now.machine in
    let code = code_of c.args.self.now.code.now in
    let needs = (λ i. next_needs_no_more (sym (room_left m) i) (sym (frames_left m) i) code (running_of m)) ∙ stays in
    absurd (c.turn.ensures.within bare needs (search rules))
