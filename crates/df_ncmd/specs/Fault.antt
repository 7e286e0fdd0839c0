-- What a fault of `clap` comes to.
use Rattle.clap.specs.declared.error.kind.ErrorKind.{ErrorKind}
use Rattle.clap.specs.declared.error.kind.ErrorKind.TheVariants as kinds
use Rattle.df_ncmd.specs.declared.command.LineFault.{LineFault}
use Rattle.df_ncmd.specs.declared.command.LineFault.TheVariants as faults

abbrev pub fault_for : ErrorKind → LineFault
fault_for kinds.OutOfMemory = faults.Memory
fault_for kind = faults.Usage
