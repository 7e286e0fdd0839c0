-- The end of a run.
use Rattle.std.proofs.Common.{◌≡◌, ℕ, List, Option, subst, sym}
use Rattle.df_nmach.specs.Value.{Value}
use Rattle.df_nmach.specs.State.{Code, Heap, State}
use Rattle.df_nmach.specs.View.{heap_of}
use Rattle.df_nvm.specs.declared.vm.Ran.{Ran}
use Rattle.df_nvm.specs.declared.vm.Ran.TheVariants as rans
use Rattle.df_nvm.specs.mirror.Finishes.{Finishes}
use Rattle.df_nvm.specs.Runs.{Ends, Runs, GoesOn, IsCut}

-- the results and the heap that are handed back are those of the run
pub finish_runs : (r : Ran) (code : Code) (start : State) (fuel : ℕ) (results : List Value) (heap objects : Heap) (before now : Option (List ℕ)) → Finishes r results objects → objects ≡ heap
    → Ends code start fuel results heap before now → Runs r code start fuel before now
finish_runs (rans.Ended rs h) code start fuel results heap objects before now has same ends =
    subst (λ (l : List Value). Ends code start fuel l (heap_of h) before now) (sym has.0)
    (subst (λ (x : Heap). Ends code start fuel results x before now) (sym has.1)
    (subst (λ (x : Heap). Ends code start fuel results x before now) (sym same) ends))
finish_runs rans.FuelSpent code start fuel results heap objects before now has same ends = absurd has
finish_runs rans.Write code start fuel results heap objects before now has same ends = absurd has
finish_runs rans.Memory code start fuel results heap objects before now has same ends = absurd has

pub goes_on_by : (a b : Code) (old new : State) (before now : Option (List ℕ)) → a ≡ b → GoesOn a old new before now → GoesOn b old new before now
goes_on_by a b old new before now e on = subst (λ (code : Code). GoesOn code old new before now) e on

pub is_cut_by : (a b : Code) (old : State) (before now : Option (List ℕ)) → a ≡ b → IsCut a old before now → IsCut b old before now
is_cut_by a b old before now e cut = subst (λ (code : Code). IsCut code old before now) e cut
