use Rattle.std.proofs.Common.{[], ap}
use Rattle.df_nmach.specs.View.{values_of, code_of, heap_of}
use Rattle.df_codes.proofs.Running.{starts}
use Rattle.df_codes.proofs.Straight.{seven_never}
use Rattle.df_codes.specs.Programs.{programs}
use Rattle.df_codes.proofs.starts.seven_vm.Goals as goal

pub new-requires-3 : goal.new-requires-3
new-requires-3 c = starts programs 2 [] seven_never (code_of c.args.code.now) (heap_of c.new.result) (values_of c.new-2.result.items) c.requires c.new.ensures (ap values_of c.new-2.ensures.items)
