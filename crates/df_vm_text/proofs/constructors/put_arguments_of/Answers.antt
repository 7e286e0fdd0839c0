use Rattle.std.proofs.Common.{◌≡◌, vec_len, map, sym, ◌∙◌, arith}
use Rattle.df_mach2.specs.View.{shape_of}
use Rattle.df_vm_store.specs.View.{cells_of, values_in}
use Rattle.df_vm_store.proofs.Meanings.{cells_length}
use Rattle.std.proofs.lemmas.Bool.{eqb-true}
use Rattle.df_vm_text.proofs.Printed.{ended}
use Rattle.df_vm_text.proofs.constructors.put_arguments_of.Goals as goal

pub returns-then-is_empty-clause-prints : goal.returns-then-is_empty-clause-prints
returns-then-is_empty-clause-prints c =
    let parts = c.args.constructor.now.parts in
    let none : vec_len parts ≡ 0 = eqb-true (vec_len parts) 0 (sym c.is_empty.ensures ∙ c.if-is_empty.true) in
    ended c.ends.result (map shape_of c.args.shapes.now) (values_in c.args.store.now) parts.items c.args.arguments.from c.args.arguments.count c.args.out.now.items _ (omega (arith, c.requires.within, cells_length (cells_of c.args.store.now)))
    (omega (arith, parts.ok.0, parts.ok.1, none)) c.ends.ensures
