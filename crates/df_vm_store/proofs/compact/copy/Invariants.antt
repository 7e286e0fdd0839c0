use Rattle.df_vm_store.specs.Meaning.{Grows}
use Rattle.df_vm_store.specs.Compact.{kept}
use Rattle.df_vm_store.specs.View.{values_in}
use Rattle.df_vm_store.proofs.compact.copy.Given as goal

abbrev pub invariant-loop-cell : goal.invariant-loop-cell
invariant-loop-cell l = Grows (values_in l.copy) (kept l.fn.live (values_in l.fn.store))
