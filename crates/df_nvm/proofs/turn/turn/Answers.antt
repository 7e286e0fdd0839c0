use Rattle.std.proofs.Common.{◌<◌, ◌-◌, length, vec_len, vec_capacity, refl, ap, sym, subst, ◌∙◌, arith}
use Rattle.df_nmach.specs.Step.{Effect}
use Rattle.df_nmach.specs.View.{heap_of, code_of}
use Rattle.df_nvm.specs.Frames.{running_of, state_of}
use Rattle.df_nvm.specs.Stack.{operands_of, room_of}
use Rattle.df_nvm.specs.mirror.Quiet.{is_quiet}
use Rattle.df_nvm.specs.mirror.Turns.{Turns}
use Rattle.df_nvm.proofs.Next.{past_methods, past_instructions, next_is, next_needs}
use Rattle.df_nvm.proofs.turn.turn.Goals as goal

pub returns-clause-turns : goal.returns-clause-turns
returns-clause-turns g c =
    let m = c.args.machine.now in
    let code = c.args.code.now in
    let method = c.index-method.result.now in
    let lt : m.method < length code.methods.items = omega (arith, code.methods.ok.0) in
    let below : m.next < length method.instructions.items = omega (arith, method.instructions.ok.0) in
    let is = next_is (code_of code) code.methods.items (running_of m) method refl lt c.index-method.ensures (heap_of m.heap) c.index.result.now below c.index.ensures in
    let P : Effect → Type 0 = λ e. Turns c.act.result (state_of m) (state_of c.act.new.machine) (operands_of c.act.new.machine.stack) (g.S.Sink.taken c.args.sink.now) (g.S.Sink.taken c.act.new.sink) e in
    subst P (sym is) c.act.ensures.turns

pub returns-clause-quiet : goal.returns-clause-quiet
returns-clause-quiet g c = λ quiet.
    let m = c.args.machine.now in
    let code = c.args.code.now in
    let method = c.index-method.result.now in
    let lt : m.method < length code.methods.items = omega (arith, code.methods.ok.0) in
    let below : m.next < length method.instructions.items = omega (arith, method.instructions.ok.0) in
    let is = next_is (code_of code) code.methods.items (running_of m) method refl lt c.index-method.ensures (heap_of m.heap) c.index.result.now below c.index.ensures in
    c.act.ensures.quiet (ap is_quiet (sym is) ∙ quiet)

pub returns-clause-within : goal.returns-clause-within
returns-clause-within g c = λ bare needs.
    let m = c.args.machine.now in
    let code = c.args.code.now in
    let method = c.index-method.result.now in
    let lt : m.method < length code.methods.items = omega (arith, code.methods.ok.0) in
    let below : m.next < length method.instructions.items = omega (arith, method.instructions.ok.0) in
    let is = next_needs (code_of code) code.methods.items (running_of m) method refl lt c.index-method.ensures (room_of m.stack) (vec_capacity m.waiting - vec_len m.waiting) c.index.result.now below c.index.ensures in
    c.act.ensures.within bare (sym is ∙ needs)

pub returns-clause-words : goal.returns-clause-words
returns-clause-words g c = c.act.ensures.words

pub returns-clause-frames : goal.returns-clause-frames
returns-clause-frames g c = c.act.ensures.frames

pub returns-clause-cause : goal.returns-clause-cause
returns-clause-cause g c = c.act.ensures.cause

pub returns-clause-stays : goal.returns-clause-stays
returns-clause-stays g c = c.act.ensures.stays

pub returns-then-machine-len-clause-turns : goal.returns-then-machine-len-clause-turns
returns-then-machine-len-clause-turns g c =
    let m = c.args.machine.now in
    let code = c.args.code.now in
    past_methods (code_of code) code.methods.items (heap_of m.heap) (running_of m) refl (omega (arith, code.methods.ok.0))

pub returns-then-machine-len-2-clause-turns : goal.returns-then-machine-len-2-clause-turns
returns-then-machine-len-2-clause-turns g c =
    let m = c.args.machine.now in
    let code = c.args.code.now in
    let method = c.index-method.result.now in
    let lt : m.method < length code.methods.items = omega (arith, code.methods.ok.0) in
    past_instructions (code_of code) code.methods.items (running_of m) method refl lt c.index-method.ensures (heap_of m.heap) (omega (arith, method.instructions.ok.0))
