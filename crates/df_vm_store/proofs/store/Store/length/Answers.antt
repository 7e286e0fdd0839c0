use Rattle.std.proofs.Common.{◌+◌, rules}
use Rattle.df_vm_store.specs.View.{cells_of, size_of}
use Rattle.std.proofs.lemmas.Bool.{leb-true}
use Rattle.df_vm_store.proofs.Parts.{members_length}
use Rattle.df_vm_store.proofs.store.Store.length.Goals as goal

pub returns-clause-answers : goal.returns-clause-answers
returns-clause-answers c =
    let within = rw c.in-Sequence.is at c.requires in
    rw c.in-Sequence.is (rw (members_length (cells_of c.args.self.now) c.in-Sequence.field-0 c.in-Sequence.count (leb-true (c.in-Sequence.field-0 + c.in-Sequence.count) (size_of c.args.self.now) within)) (search rules))
