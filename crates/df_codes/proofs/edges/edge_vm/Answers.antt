use Rattle.std.proofs.Common.{List, ap}
use Rattle.df_nmach.specs.View.{values_of, code_of, heap_of}
use Rattle.df_nmach.specs.declared.value.Value.{Value}
use Rattle.df_codes.proofs.Running.{starts}
use Rattle.df_codes.proofs.Straight.{edges_never, edge_arguments}
use Rattle.df_codes.specs.Edges.{edges}
use Rattle.df_codes.proofs.edges.edge_vm.Goals as goal

pub new-requires-2 : goal.new-requires-2
new-requires-2 c =
    let arguments = c.in_ok-arguments.arguments.items in
    starts edges 0 edge_arguments edges_never (code_of c.args.code.now) (heap_of c.new.result) (values_of arguments) c.requires c.new.ensures (ap (λ (l : List Value). values_of l) c.in_ok-arguments.ensures.items)
