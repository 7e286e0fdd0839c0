use Rattle.std.proofs.Common.{arith}
use Rattle.df_vm_store.specs.View.{cells_of}
use Rattle.df_vm_store.specs.View.{values_in}
use Rattle.df_vm_store.proofs.Parts.{join_beside, join_laid, repeated_grows, grows_then}
use Rattle.df_vm_store.proofs.store.Store.join.Goals as goal

pub returns-then-from-count-clause-answers : goal.returns-then-from-count-clause-answers
returns-then-from-count-clause-answers c =
    let k = c.in-Sequence-Sequence in
    let left = rw c.in-Sequence-Sequence.is-0 at c.requires.left in
    let right = rw c.in-Sequence-Sequence.is-1 at c.requires.right in
    rw (c.in-Sequence-Sequence.is-0, c.in-Sequence-Sequence.is-1) (join_beside (cells_of c.args.self.now) k.from k.count k.other k.more left right c.if-from-count.true (omega (arith, c.args.self.now.cells.ok.0, c.args.self.now.cells.ok.1, c.args.self.now.cells.small)))

pub returns-clause-answers : goal.returns-clause-answers
returns-clause-answers c =
    let k = c.in-Sequence-Sequence in
    let left = rw c.in-Sequence-Sequence.is-0 at c.requires.left in
    let right = rw c.in-Sequence-Sequence.is-1 at c.requires.right in
    rw (c.in-Sequence-Sequence.is-0, c.in-Sequence-Sequence.is-1)
    (join_laid (cells_of c.args.self.now) (cells_of c.lay.new.self) (cells_of c.repeat.new.self) k.from k.count k.other k.more c.in_ok-start.start c.lay.new.self.founded left right c.in_ok-start.ensures.grows c.in_ok-start.ensures.end c.in_ok-start.ensures.piece c.in_ok-repeat.ensures.ok c.in_ok-repeat.ensures.small)

pub returns-clause-grows : goal.returns-clause-grows
returns-clause-grows c =
    grows_then (values_in c.args.self.now) (values_in c.lay.new.self) (values_in c.repeat.new.self) c.in_ok-start.ensures.grows
    (repeated_grows (cells_of c.lay.new.self) (cells_of c.repeat.new.self) c.in-Sequence-Sequence.other c.in-Sequence-Sequence.more c.lay.new.self.founded c.in_ok-repeat.ensures.ok)
