-- The first of all faults is told.
use Rattle.std.specs.Prelude.{◌≡◌, List, [], Result, Ok, Err}
use Rattle.df_base.specs.declared.refusal.Refusal.{Refusal}
use Rattle.df_base.specs.declared.refusal.Stop.{Stop}
use Rattle.df_base.specs.declared.refusal.Stop.TheVariants as stops
use Rattle.df_nnames.specs.Faults.{IsFirst}

-- a refusal is the first of the faults; want of memory says nothing of them
abbrev pub IsTold : Stop → List Refusal → Type 0
IsTold stops.Memory faults = Unit {0}
IsTold (stops.Refused refusal) faults = IsFirst faults refusal

-- there are no faults, or the first is told
abbrev pub Tells : {A : Type 0} → Result A Stop → List Refusal → Type 0
Tells (Ok x) faults = faults ≡ []
Tells (Err stop) faults = IsTold stop faults
