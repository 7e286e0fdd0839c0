use Rattle.std.proofs.Common.{map, string_bytes}
use Rattle.df_ncmd.specs.View.{command_of}
use Rattle.df_ntop.specs.Call.{store, streams}
use Rattle.df_ntop.proofs.Commands.{done, unproved, unwritten, fuel_end, told_end, memory_end}
use Rattle.df_ntop.proofs.command.carry_out.Goals as goal

pub end_command-requires-clause-limits : goal.end_command-requires-clause-limits
end_command-requires-clause-limits g c = c.limits.ensures (map string_bytes c.args.words.now) (command_of c.args.command.now) c.requires.line.asks

pub returns-in-Done-clause-answers : goal.returns-in-Done-clause-answers
returns-in-Done-clause-answers g c =
    let words = map string_bytes c.args.words.now in
    let files = store g.F.Files c.args.files.now c.end_command.new.files in
    let s = streams g.O.Sink c.args.out.now c.end_command.new.out g.E.Sink c.args.err.now c.end_command.new.err in
    done words files (command_of c.args.command.now) c.requires.line s c.in-Done.ensures.ends

pub returns-in-Unproved-clause-answers : goal.returns-in-Unproved-clause-answers
returns-in-Unproved-clause-answers g c =
    let words = map string_bytes c.args.words.now in
    let files = store g.F.Files c.args.files.now c.end_command.new.files in
    let s = streams g.O.Sink c.args.out.now c.end_command.new.out g.E.Sink c.args.err.now c.end_command.new.err in
    unproved words files (command_of c.args.command.now) c.requires.line s c.in-Unproved.ensures.ends

pub returns-in-FuelSpent-clause-answers : goal.returns-in-FuelSpent-clause-answers
returns-in-FuelSpent-clause-answers g c =
    let words = map string_bytes c.args.words.now in
    let files = store g.F.Files c.args.files.now c.end_command.new.files in
    let s = streams g.O.Sink c.args.out.now c.end_command.new.out g.E.Sink c.args.err.now c.end_command.new.err in
    fuel_end words files s (g.E.Sink.taken c.tell_fuel.new.err) (g.E.Sink.fault_count c.tell_fuel.new.err) c.end_command.ensures.keeps.1.counts (command_of c.args.command.now) c.requires.line c.tell_fuel.result c.in-FuelSpent.ensures.ends c.tell_fuel.ensures.tells

pub returns-in-Told-clause-answers : goal.returns-in-Told-clause-answers
returns-in-Told-clause-answers g c =
    let words = map string_bytes c.args.words.now in
    let files = store g.F.Files c.args.files.now c.end_command.new.files in
    let s = streams g.O.Sink c.args.out.now c.end_command.new.out g.E.Sink c.args.err.now c.end_command.new.err in
    let ends = c.in-Told.ensures.ends in
    told_end words files s (g.E.Sink.taken c.tell.new.err) (g.E.Sink.fault_count c.tell.new.err) c.end_command.ensures.keeps.1.counts (command_of c.args.command.now) c.requires.line c.as_slice.result.now c.in-Told.status c.tell.result (rw c.as_slice.ensures.value ends.0) ends.1.0 ends.1.1 c.tell.ensures.tells

pub returns-in-Unwritten-clause-answers : goal.returns-in-Unwritten-clause-answers
returns-in-Unwritten-clause-answers g c =
    let words = map string_bytes c.args.words.now in
    let files = store g.F.Files c.args.files.now c.end_command.new.files in
    let s = streams g.O.Sink c.args.out.now c.end_command.new.out g.E.Sink c.args.err.now c.end_command.new.err in
    unwritten words files (command_of c.args.command.now) c.requires.line s c.in-Unwritten.ensures.ends

pub returns-in-Memory-clause-answers : goal.returns-in-Memory-clause-answers
returns-in-Memory-clause-answers g c =
    let words = map string_bytes c.args.words.now in
    let files = store g.F.Files c.args.files.now c.end_command.new.files in
    let s = streams g.O.Sink c.args.out.now c.end_command.new.out g.E.Sink c.args.err.now c.end_command.new.err in
    memory_end words files s (g.E.Sink.taken c.tell_memory.new.err) (g.E.Sink.fault_count c.tell_memory.new.err) c.end_command.ensures.keeps.1.counts (command_of c.args.command.now) c.requires.line c.tell_memory.result c.in-Memory.ensures.ends c.tell_memory.ensures.tells
