use Rattle.std.proofs.Common.{◌≡◌, drop, map}
use Rattle.df_base.specs.Fakes.{takes_first}
use Rattle.df_base.specs.Stored.{planned}
use Rattle.df_base.proofs.sink.mem.MemSink.takes_first.Given as goal

abbrev pub invariant-loop-planned : goal.invariant-loop-planned
invariant-loop-planned l = takes_first (map planned (drop l.planned-index l.planned-items)) l.self.calls ≡ takes_first l.self.failing l.self.calls
