use Rattle.std.proofs.Common.{◌≡◌, ◌+◌, arith, rules, to_z-of_z, Some}
use Rattle.df_vm_store.specs.View.{cells_of, size_of}
use Rattle.df_vm_store.proofs.Meanings.{cell_within}
use Rattle.std.proofs.lemmas.Bool.{leb-true}
use Rattle.df_vm_store.specs.Numbers.{place_in}
use Rattle.df_vm_store.proofs.Parts.{at_some, at_none, place_in_below}
use Rattle.df_vm_store.proofs.store.Store.at.Goals as goal

pub returns-in_default-place-clause-answers : goal.returns-in_default-place-clause-answers
returns-in_default-place-clause-answers c =
    let within = rw c.in-Sequence-Number.is-0 at c.requires in
    rw (c.in-Sequence-Number.is-0, c.in-Sequence-Number.is-1) (at_none (cells_of c.args.self.now) c.in-Sequence-Number.from c.in-Sequence-Number.count _ within (search (rules, to_z-of_z)))

pub returns-clause-answers : goal.returns-clause-answers
returns-clause-answers c =
    let within = rw c.in-Sequence-Number.is-0 at c.requires in
    rw (c.in-Sequence-Number.is-0, c.in-Sequence-Number.is-1) (at_some (cells_of c.args.self.now) c.in-Sequence-Number.from c.in-Sequence-Number.count _ c.in-Some.place _ c.args.self.now.founded within (search (rules, to_z-of_z)) c.index.ensures)

pub returns-clause-stands : goal.returns-clause-stands
returns-clause-stands c =
    let within = rw c.in-Sequence-Number.is-0 at c.requires in
    let le = leb-true (c.in-Sequence-Number.from + c.in-Sequence-Number.count) (size_of c.args.self.now) within in
    let is : place_in c.in-Sequence-Number.index c.in-Sequence-Number.count ≡ Some c.in-Some.place = search (rules, to_z-of_z) in
    cell_within (cells_of c.args.self.now) (c.in-Sequence-Number.from + c.in-Some.place) c.index.result.now c.args.self.now.founded (omega (arith, le, place_in_below c.in-Sequence-Number.index c.in-Sequence-Number.count c.in-Some.place is)) c.index.ensures
