use Rattle.std.proofs.Common.{◌<◌, length, get_or, drop, reverse, ap, arith}
use Rattle.std.proofs.lemmas.Option.{slice_get-get_or}
use Rattle.std.proofs.lemmas.Result.{err_from_is_err_and}
use Rattle.df_nmach.specs.declared.code.Shape.TheVariants.{Number}
use Rattle.df_nmach.specs.View.{value_of, heap_of}
use Rattle.df_nvm.specs.Frames.{frames_at, running_of}
use Rattle.df_nvm.specs.Stack.{locals_of, operands_of}
use Rattle.df_nvm.proofs.Printed.{went, failed, silent}
use Rattle.df_nvm.proofs.machine.Machine.print.Goals as goal

pub returns-in_err-print-clause-puts : goal.returns-in_err-print-clause-puts
returns-in_err-print-clause-puts g c =
    let m = c.args.self.now in
    let shapes = c.args.shapes.now in
    let lt : c.args.shape < length shapes = omega arith in
    let p = err_from_is_err_and c.from_residual.result c.from_residual.ensures.1 in
    rw (p.1, p.2) (failed shapes c.args.shape (get_or shapes c.args.shape Number) (heap_of m.heap) (running_of m) (value_of c.in-Some.value.now) (slice_get-get_or shapes c.args.shape Number lt)
    c.in_err-print.field-0.0 (drop 1 (operands_of m.stack)) (g.S.Sink.taken c.args.sink.now) (g.S.Sink.taken c.print.new.sink) c.in-Some.ensures.some c.in_err-print.ensures.prints)

pub returns-in_err-print-clause-quiet : goal.returns-in_err-print-clause-quiet
returns-in_err-print-clause-quiet g c = λ quiet.
    let m = c.args.self.now in
    let shapes = c.args.shapes.now in
    let lt : c.args.shape < length shapes = omega arith in
    c.print.ensures.quiet (silent shapes c.args.shape (get_or shapes c.args.shape Number) (heap_of m.heap) (running_of m) (value_of c.in-Some.value.now) (slice_get-get_or shapes c.args.shape Number lt) (drop 1 (operands_of m.stack)) c.in-Some.ensures.some quiet)

pub returns-clause-puts : goal.returns-clause-puts
returns-clause-puts g c =
    let m = c.args.self.now in
    let shapes = c.args.shapes.now in
    let lt : c.args.shape < length shapes = omega arith in
    went shapes c.args.shape (get_or shapes c.args.shape Number) (heap_of m.heap) (running_of m) (value_of c.in-Some.value.now) (slice_get-get_or shapes c.args.shape Number lt)
    (drop 1 (operands_of m.stack)) (operands_of c.pop.new.self) (locals_of c.pop.new.self) c.pop.result (g.S.Sink.taken c.args.sink.now) (g.S.Sink.taken c.print.new.sink)
    c.in-Some.ensures.some c.pop.ensures.some c.pop.ensures.none c.pop.ensures.locals c.in_ok-print.ensures.prints

pub returns-clause-quiet : goal.returns-clause-quiet
returns-clause-quiet g c = λ quiet.
    let m = c.args.self.now in
    let shapes = c.args.shapes.now in
    let lt : c.args.shape < length shapes = omega arith in
    c.print.ensures.quiet (silent shapes c.args.shape (get_or shapes c.args.shape Number) (heap_of m.heap) (running_of m) (value_of c.in-Some.value.now) (slice_get-get_or shapes c.args.shape Number lt) (drop 1 (operands_of m.stack)) c.in-Some.ensures.some quiet)

pub returns-clause-waiting : goal.returns-clause-waiting
returns-clause-waiting g c = ap (frames_at (reverse c.args.self.now.waiting.items)) c.pop.ensures.below

pub returns-clause-stays : goal.returns-clause-stays
returns-clause-stays g c = c.print.ensures.stays
