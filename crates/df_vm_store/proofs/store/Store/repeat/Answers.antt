use Rattle.std.proofs.Common.{ℕ, ◌+◌, ◌-◌}
use Rattle.df_vm_store.specs.View.{cells_of}
use Rattle.df_vm_store.proofs.Meanings.{founded_if, founded_piece}
use Rattle.df_vm_store.proofs.store.Store.repeat.Goals as goal

pub invariant_of-self-2-clause-founded : goal.invariant_of-self-2-clause-founded
invariant_of-self-2-clause-founded c =
    let n : ℕ = c.args.from + c.args.count - c.args.from in
    founded_if _ (cells_of c.args.self.now) _ _ c.extend_from_within.ensures.items c.args.self.now.founded (founded_piece (cells_of c.args.self.now) c.args.from n c.args.self.now.founded)
