use Rattle.df_vm_store.specs.View.{cells_of}
use Rattle.df_vm_store.proofs.Parts.{repeated, repeated_grows, grows_same}
use Rattle.df_vm_store.proofs.store.Store.lay.Goals as goal

pub returns-in_err-start-clause-grows : goal.returns-in_err-start-clause-grows
returns-in_err-start-clause-grows c = grows_same (cells_of c.args.self.now) _ c.in_err-start.ensures.err

pub returns-clause-piece : goal.returns-clause-piece
returns-clause-piece c = repeated (cells_of c.args.self.now) (cells_of c.repeat.new.self) c.args.from c.args.count c.in_ok-start.start c.args.self.now.founded c.requires c.in_ok-start.ensures.from c.in_ok-start.ensures.ok

pub returns-clause-grows : goal.returns-clause-grows
returns-clause-grows c = repeated_grows (cells_of c.args.self.now) (cells_of c.repeat.new.self) c.args.from c.args.count c.args.self.now.founded c.in_ok-start.ensures.ok
