-- The results and the heap that a run ends with.
use Rattle.std.specs.Prelude.{◌≡◌, List}
use Rattle.df_nmach.specs.Value.{Value}
use Rattle.df_nmach.specs.State.{Heap}
use Rattle.df_nmach.specs.View.{values_of, heap_of}
use Rattle.df_nvm.specs.declared.vm.Ran.{Ran}
use Rattle.df_nvm.specs.declared.vm.Ran.TheVariants as rans

abbrev pub Finishes : Ran → List Value → Heap → Type 0
Finishes (rans.Ended results heap) values objects = (values_of results.items ≡ values) × (heap_of heap ≡ objects)
Finishes rans.FuelSpent values objects = ⊥
Finishes rans.Write values objects = ⊥
Finishes rans.Memory values objects = ⊥
