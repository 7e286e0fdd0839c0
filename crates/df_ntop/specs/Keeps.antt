-- What holds of a sink whatever is put on it.
use Rattle.std.specs.Prelude.{◌≡◌, ◌≤◌}
use Rattle.df_base.specs.declared.sink.Sink as sinks

-- its count of faults does not fall, and whether it takes memory stays
pub record Keeps {S : Type 0} (members : sinks.Ghosts S) (old new : S) : Type 0 where
  pub counts : members.fault_count old ≤ members.fault_count new
  pub stays : members.takes_memory new ≡ members.takes_memory old
