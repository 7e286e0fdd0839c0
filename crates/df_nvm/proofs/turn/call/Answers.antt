use Rattle.std.proofs.Common.{◌<◌, ◌-◌, length, vec_len, vec_capacity, true, ◌&&◌, nat_lt, nat_le, Option, ap, sym, subst, ◌∙◌, arith}
use Rattle.std.proofs.lemmas.Bool.{true≢false}
use Rattle.std.specs.Option.{option_map_or}
use Rattle.df_nmach.specs.State.{Method}
use Rattle.df_nmach.specs.Step.{given, calls}
use Rattle.df_nvm.specs.Frames.{running_of, waiting_of}
use Rattle.df_nvm.specs.Stack.{room_of}
use Rattle.df_nvm.specs.mirror.Turns.{Enters}
use Rattle.df_nvm.proofs.Begins.{method_at}
use Rattle.df_nvm.proofs.Next.{no_method}
use Rattle.df_nvm.proofs.turn.call.Goals as goal

pub returns-clause-enters : goal.returns-clause-enters
returns-clause-enters c =
    let m = c.args.machine.now in
    let methods = c.args.code.now.methods in
    let lt : c.args.number < length methods.items = omega (arith, methods.ok.0) in
    let found = method_at methods.items c.args.number c.index.result.now lt c.index.ensures in
    let P : Option Method → Type 0 = λ o. Enters c.call.result (running_of m) (running_of c.call.new.self) (waiting_of m) (waiting_of c.call.new.self) (given o (calls (running_of m) (running_of m).operands c.args.number)) in
    subst P (sym found) c.call.ensures.enters

pub returns-clause-within : goal.returns-clause-within
returns-clause-within c = λ needs refused.
    let m = c.args.machine.now in
    let methods = c.args.code.now.methods in
    let lt : c.args.number < length methods.items = omega (arith, methods.ok.0) in
    let found = method_at methods.items c.args.number c.index.result.now lt c.index.ensures in
    let fits = ap (λ (o : Option Method). option_map_or (λ (method : Method). nat_le method.locals (room_of m.stack) && nat_lt 0 (vec_capacity m.waiting - vec_len m.waiting)) o true) found in
    true≢false (sym needs ∙ fits ∙ c.call.ensures.full refused)

pub returns-clause-heap : goal.returns-clause-heap
returns-clause-heap c = c.call.ensures.heap

pub returns-clause-words : goal.returns-clause-words
returns-clause-words c = c.call.ensures.words

pub returns-clause-frames : goal.returns-clause-frames
returns-clause-frames c = c.call.ensures.frames

pub returns-then-number-len-clause-enters : goal.returns-then-number-len-clause-enters
returns-then-number-len-clause-enters c =
    let f = running_of c.args.machine.now in
    let methods = c.args.code.now.methods in
    ap (λ (o : Option Method). given o (calls f f.operands c.args.number)) (no_method methods.items c.args.number (omega (arith, methods.ok.0)))
