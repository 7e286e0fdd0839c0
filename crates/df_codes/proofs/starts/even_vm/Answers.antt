use Rattle.std.proofs.Common.{[], ◌∷◌, pos, ◌≤◌, arith}
use Rattle.df_nmach.specs.View.{values_of, code_of, heap_of}
use Rattle.df_nmach.specs.Value.{Number}
use Rattle.df_codes.proofs.Running.{starts}
use Rattle.df_codes.proofs.Parity.{even_never}
use Rattle.df_codes.specs.Programs.{programs}
use Rattle.df_codes.proofs.starts.even_vm.Goals as goal

pub new-requires-2 : goal.new-requires-2
new-requires-2 c =
    let fits : c.args.number ≤ 2147483647 = omega (arith, c.requires.number) in
    starts programs 0 (Number (pos c.args.number) ∷ []) (even_never c.args.number fits) (code_of c.args.code.now) (heap_of c.new.result) (values_of c.in_ok-arguments.arguments.items) c.requires.code c.new.ensures c.in_ok-arguments.ensures
