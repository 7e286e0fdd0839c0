-- How a fault of the sink halts.
use Rattle.df_base.specs.declared.sink.SinkFault.{SinkFault}
use Rattle.df_base.specs.declared.sink.SinkFault.TheVariants as faults
use Rattle.df_nvm.specs.declared.halt.Halt.{Halt}
use Rattle.df_nvm.specs.declared.halt.Halt.TheVariants as halts

abbrev pub halt_of : SinkFault → Halt
halt_of faults.Failed = halts.Write
halt_of faults.Memory = halts.Memory
