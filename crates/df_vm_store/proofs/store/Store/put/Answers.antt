use Rattle.std.proofs.Common.{[], ◌∷◌}
use Rattle.df_vm_store.specs.View.{cells_of, size_of}
use Rattle.df_vm_store.proofs.Meanings.{founded_if, within_front, within_nil}
use Rattle.df_vm_store.proofs.store.Store.put.Goals as goal

pub invariant_of-self-2-clause-founded : goal.invariant_of-self-2-clause-founded
invariant_of-self-2-clause-founded c =
    let n = size_of c.args.self.now in
    founded_if _ (cells_of c.args.self.now) (c.args.word ∷ []) _ c.push.ensures.items c.args.self.now.founded (within_front n c.args.word [] c.requires (within_nil n))
