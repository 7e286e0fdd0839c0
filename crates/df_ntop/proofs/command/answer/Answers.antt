use Rattle.std.proofs.Common.{Err, refl, map, string_bytes, arith}
use Rattle.df_ncmd.specs.View.{command_of}
use Rattle.df_ntop.specs.Call.{store, streams, IsLine}
use Rattle.df_ntop.proofs.Commands.{usage_end, nothing_read}
use Rattle.df_ntop.proofs.Limits.{no_line_read}
use Rattle.df_ntop.proofs.command.answer.Goals as goal

pub carry_out-requires-clause-line : goal.carry_out-requires-clause-line
carry_out-requires-clause-line g c = record { asks = c.in-Ok.ensures }

pub carry_out-requires-clause-allowed : goal.carry_out-requires-clause-allowed
carry_out-requires-clause-allowed g c = λ name named.
    let line : IsLine (map string_bytes c.args.words.now) (command_of c.in-Ok.command) = record { asks = c.in-Ok.ensures } in
    c.requires (command_of c.in-Ok.command) name line named

pub returns-in-Err-Usage-clause-answers : goal.returns-in-Err-Usage-clause-answers
returns-in-Err-Usage-clause-answers g c =
    let words = map string_bytes c.args.words.now in
    let files = store g.F.Files c.args.files.now c.args.files.now in
    let s = streams g.O.Sink c.args.out.now c.args.out.now g.E.Sink c.args.err.now c.args.err.now in
    let none = no_line_read words (Err c.in-Err-Usage.field-0) c.in-Err-Usage.ensures (rw c.in-Err-Usage.field-0-is refl) in
    usage_end words files s (g.E.Sink.taken c.tell_usage.new.err) (g.E.Sink.fault_count c.tell_usage.new.err) (omega arith) c.tell_usage.result none refl refl c.tell_usage.ensures.tells

pub returns-in-Err-Memory-clause-answers : goal.returns-in-Err-Memory-clause-answers
returns-in-Err-Memory-clause-answers g c =
    let words = map string_bytes c.args.words.now in
    let files = store g.F.Files c.args.files.now c.args.files.now in
    let s = streams g.O.Sink c.args.out.now c.args.out.now g.E.Sink c.args.err.now c.args.err.now in
    nothing_read words files s (g.E.Sink.taken c.tell_memory.new.err) (g.E.Sink.fault_count c.tell_memory.new.err) (omega arith) c.tell_memory.result refl refl c.tell_memory.ensures.tells
