use Rattle.std.proofs.Common.{[], ap, ◌∙◌}
use Rattle.df_nback.specs.Run.{code_for}
use Rattle.df_nmach.specs.View.{values_of, code_of, heap_of}
use Rattle.df_codes.proofs.Running.{starts}
use Rattle.df_back_tests.proofs.Sampled.{code, compiles_to, code_never}
use Rattle.df_back_tests.proofs.compiling.entry_vm.Goals as goal

pub new-requires-3 : goal.new-requires-3
new-requires-3 c =
    starts code 1 [] code_never (code_of c.args.code.now) (heap_of c.new.result) (values_of c.new-2.result.items)
    (c.requires.compiled.is ∙ ap code_for c.requires.program ∙ compiles_to) c.new.ensures (ap values_of c.new-2.ensures.items)
