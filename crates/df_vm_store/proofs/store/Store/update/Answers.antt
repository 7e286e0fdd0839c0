use Rattle.std.proofs.Common.{List, take, drop, length, rules, to_z-of_z}
use Rattle.df_vm_store.specs.declared.word.Word.{Word}
use Rattle.df_vm_store.specs.View.{cells_of, value_at}
use Rattle.df_vm_store.proofs.Meanings.{founded_piece}
use Rattle.df_vm_store.proofs.Parts.{update_found, update_missed, kept_grows, within_set}
use Rattle.df_vm_store.proofs.store.Store.update.Goals as goal

pub returns-in_default-place-clause-answers : goal.returns-in_default-place-clause-answers
returns-in_default-place-clause-answers c =
    let within = rw c.in-Sequence-Number.is-0 at c.requires.whole in
    rw (c.in-Sequence-Number.is-0, c.in-Sequence-Number.is-1) (update_missed (cells_of c.args.self.now) c.in-Sequence-Number.from c.in-Sequence-Number.count _ (value_at c.args.self.now c.args.word) within (search (rules, to_z-of_z)))

pub returns-clause-answers : goal.returns-clause-answers
returns-clause-answers c =
    let k = c.in-Sequence-Number in
    let within = rw c.in-Sequence-Number.is-0 at c.requires.whole in
    rw (c.in-Sequence-Number.is-0, c.in-Sequence-Number.is-1)
    (update_found (cells_of c.args.self.now) (cells_of c.revise.new.self) k.from k.count c.in_ok-start.start c.in-Some.place _ c.args.word c.args.self.now.founded within c.requires.word (search (rules, to_z-of_z)) c.in_ok-start.ensures.ok c.in_ok-start.ensures.from c.in_ok-start.ensures.small)

pub returns-clause-grows : goal.returns-clause-grows
returns-clause-grows c =
    let cells : List Word = cells_of c.args.self.now in
    let k = c.in-Sequence-Number in
    kept_grows cells (cells_of c.revise.new.self) _ c.in_ok-start.ensures.ok (within_set (length cells) (take k.count (drop k.from cells)) c.in-Some.place c.args.word (founded_piece cells k.from k.count c.args.self.now.founded) c.requires.word)
