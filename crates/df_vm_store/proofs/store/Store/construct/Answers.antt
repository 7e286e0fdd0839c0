use Rattle.df_vm_store.specs.View.{cells_of}
use Rattle.df_vm_store.proofs.Parts.{construct_found, kept_grows}
use Rattle.df_vm_store.proofs.store.Store.construct.Goals as goal

pub returns-clause-answers : goal.returns-clause-answers
returns-clause-answers c = construct_found (cells_of c.args.self.now) (cells_of c.keep.new.self) c.args.words.now c.args.tag c.in_ok-from.from c.in_ok-from.ensures.from c.in_ok-from.ensures.ok c.requires c.in_ok-from.ensures.small

pub returns-clause-grows : goal.returns-clause-grows
returns-clause-grows c = kept_grows (cells_of c.args.self.now) (cells_of c.keep.new.self) c.args.words.now c.in_ok-from.ensures.ok c.requires
