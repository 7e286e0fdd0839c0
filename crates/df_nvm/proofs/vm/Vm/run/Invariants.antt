use Rattle.std.proofs.Common.{◌≡◌, ◌≤◌}
use Rattle.df_nvm.specs.Vm.{machine_of, code_in, words_in, frames_in}
use Rattle.df_nvm.proofs.Reached.{Reached}
use Rattle.df_nvm.proofs.vm.Vm.run.Given as goal

-- so many steps were made, and their text is put
abbrev pub invariant-loop : goal.invariant-loop
invariant-loop g l =
    let sink = g.S.Sink in
    record {
      reached : Reached (code_in l.fn.self) (machine_of l.fn.self) l.counter (machine_of l.self) (sink.taken l.fn.sink) (sink.taken l.sink);
      code : code_in l.self ≡ code_in l.fn.self;
      counted : sink.fault_count l.fn.sink ≤ sink.fault_count l.sink;
      words : words_in l.fn.self ≤ words_in l.self;
      frames : frames_in l.fn.self ≤ frames_in l.self;
      stays : sink.takes_memory l.sink ≡ sink.takes_memory l.fn.sink;
    }
