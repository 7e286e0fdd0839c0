use Rattle.std.proofs.Common.{rules, arith, to_z-of_z}
use Rattle.df_vm_store.specs.View.{cells_of}
use Rattle.df_vm_store.proofs.Parts.{slice_some, slice_past}
use Rattle.df_vm_store.proofs.store.Store.slice.Goals as goal

pub returns-in_default-bound-clause-answers : goal.returns-in_default-bound-clause-answers
returns-in_default-bound-clause-answers c =
    let within = rw c.in-Sequence-Number-Number.is-0 at c.requires in
    rw (c.in-Sequence-Number-Number.is-0, c.in-Sequence-Number-Number.is-1, c.in-Sequence-Number-Number.is-2)
    (slice_past (cells_of c.args.self.now) c.in-Sequence-Number-Number.from c.in-Sequence-Number-Number.count _ _ within (search (rules, to_z-of_z)))

pub returns-clause-answers : goal.returns-clause-answers
returns-clause-answers c =
    let within = rw c.in-Sequence-Number-Number.is-0 at c.requires in
    rw (c.in-Sequence-Number-Number.is-0, c.in-Sequence-Number-Number.is-1, c.in-Sequence-Number-Number.is-2)
    (slice_some (cells_of c.args.self.now) c.in-Sequence-Number-Number.from c.in-Sequence-Number-Number.count _ _ c.in-Some-bound.start c.in-Some.end within (search (rules, to_z-of_z)) (search (rules, to_z-of_z)) (omega (arith, c.args.self.now.cells.ok.0, c.args.self.now.cells.ok.1, c.args.self.now.cells.small)))
