use Rattle.std.proofs.Common.{ℕ, List, take, drop, length, refl, ap, ◌∙◌, arith}
use Rattle.df_vm_store.specs.declared.word.Word.{Word}
use Rattle.df_vm_store.specs.View.{cells_of}
use Rattle.df_vm_store.specs.Meaning.{are_founded}
use Rattle.df_vm_store.proofs.Meanings.{founded_both, founded_by, founded_piece}
use Rattle.df_vm_store.proofs.Parts.{revised, within_set}
use Rattle.df_vm_store.proofs.store.Store.revise.Goals as goal

pub invariant_of-self-clause-founded : goal.invariant_of-self-clause-founded
invariant_of-self-clause-founded c =
    let cells : List Word = cells_of c.args.self.now in
    let part : List Word = take c.args.count (drop c.args.from cells) in
    let n : ℕ = length cells in
    let founded = founded_both 0 n cells _ (omega arith) c.args.self.now.founded (founded_by n _ (within_set n part c.args.place c.args.word (founded_piece cells c.args.from c.args.count c.args.self.now.founded) c.requires.word)) in
    ap (are_founded 0) (revised cells (cells_of c.repeat.new.self) _ part c.in_ok-start.start c.args.place c.args.word c.in_ok-start.ensures.ok c.in_ok-start.ensures.from refl) ∙ founded

pub returns-clause-ok : goal.returns-clause-ok
returns-clause-ok c =
    let cells : List Word = cells_of c.args.self.now in
    revised cells (cells_of c.repeat.new.self) _ (take c.args.count (drop c.args.from cells)) c.in_ok-start.start c.args.place c.args.word c.in_ok-start.ensures.ok c.in_ok-start.ensures.from refl
