use Rattle.df_vm_store.specs.View.{cells_of}
use Rattle.df_vm_store.proofs.Meanings.{founded_if}
use Rattle.df_vm_store.proofs.store.Store.keep.Goals as goal

pub invariant_of-self-2-clause-founded : goal.invariant_of-self-2-clause-founded
invariant_of-self-2-clause-founded c = founded_if _ (cells_of c.args.self.now) c.args.words.now _ c.extend_from_slice.ensures.items c.args.self.now.founded c.requires
