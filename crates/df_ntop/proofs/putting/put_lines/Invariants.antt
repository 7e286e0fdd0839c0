use Rattle.std.proofs.Common.{◌≡◌, ◌≤◌, ◌-◌, length, take}
use Rattle.df_base.specs.Outside.{Appends}
use Rattle.df_ntop.proofs.putting.put_lines.Given as goal

-- the bytes before the line that begins are put
abbrev pub invariant-loop-start : goal.invariant-loop-start
invariant-loop-start g l =
    let sink = g.S.Sink in
    record {
      within : l.start ≤ length l.text;
      put : Appends (sink.taken l.fn.sink) (sink.taken l.sink) (take l.start l.text);
      counted : sink.fault_count l.fn.sink ≤ sink.fault_count l.sink;
      stays : sink.takes_memory l.sink ≡ sink.takes_memory l.fn.sink;
    }

abbrev pub decreases-loop-start : goal.decreases-loop-start
decreases-loop-start g l = length l.text - l.start
