use Rattle.std.proofs.Common.{◌+◌, arith}
use Rattle.df_vm_store.specs.View.{cells_of, size_of}
use Rattle.df_vm_store.proofs.Meanings.{cell_within}
use Rattle.std.proofs.lemmas.Bool.{leb-true}
use Rattle.df_vm_store.proofs.Parts.{part_some, part_none}
use Rattle.df_vm_store.proofs.store.Store.part.Goals as goal

pub returns-then-place-count-clause-answers : goal.returns-then-place-count-clause-answers
returns-then-place-count-clause-answers c =
    let within = rw c.in-Data.is at c.requires in
    rw c.in-Data.is (part_none (cells_of c.args.self.now) c.in-Data.field-0 c.in-Data.from c.in-Data.count c.args.place within (omega arith))

pub returns-clause-answers : goal.returns-clause-answers
returns-clause-answers c =
    let within = rw c.in-Data.is at c.requires in
    rw c.in-Data.is (part_some (cells_of c.args.self.now) c.in-Data.field-0 c.in-Data.from c.in-Data.count c.args.place c.index.result.now c.args.self.now.founded within (omega arith) c.index.ensures)

pub returns-clause-stands : goal.returns-clause-stands
returns-clause-stands c =
    let within = rw c.in-Data.is at c.requires in
    let le = leb-true (c.in-Data.from + c.in-Data.count) (size_of c.args.self.now) within in
    cell_within (cells_of c.args.self.now) (c.in-Data.from + c.args.place) c.index.result.now c.args.self.now.founded (omega (arith, le)) c.index.ensures
