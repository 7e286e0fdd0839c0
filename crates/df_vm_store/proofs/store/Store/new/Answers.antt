use Rattle.std.proofs.Common.{ap}
use Rattle.df_vm_store.specs.Meaning.{are_founded}
use Rattle.df_vm_store.proofs.store.Store.new.Goals as goal

pub invariant_of-result-clause-founded : goal.invariant_of-result-clause-founded
unfolding are_founded
invariant_of-result-clause-founded c = ap (are_founded 0) c.new.ensures.items
