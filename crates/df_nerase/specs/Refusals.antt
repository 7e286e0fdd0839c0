-- Which programs are refused, and how, whatever is made of the others.
use Rattle.std.specs.Prelude.{◌≡◌, ℕ, Result, Err, IfErr}
use Rattle.df_base.specs.declared.pos.Pos.{Pos}
use Rattle.df_lang.specs.Program.{Program}
use Rattle.df_lang.specs.Native.{IsNative}
use Rattle.df_nerase.specs.declared.fault.EraseFault.{EraseFault}
use Rattle.df_nerase.specs.declared.fault.EraseFault.TheVariants as faults
use Rattle.df_nerase.specs.First.{IsFirst}

-- what is told to be broken is the first that is
abbrev pub TellsTheFirst : {A : Type 0} → Program → Result A EraseFault → Type 0
TellsTheFirst program result = (pos : Pos) (rule : ℕ) → result ≡ Err (faults.NotNative pos rule) → IsFirst program pos rule

-- the first that is broken is told
abbrev pub IsTold : {A : Type 0} → Program → Result A EraseFault → Type 0
IsTold program result = (pos : Pos) (rule : ℕ) → IsFirst program pos rule → result ≡ Err (faults.NotNative pos rule)

-- where nothing is broken, memory alone is refused
abbrev pub Compiles : {A : Type 0} → Program → Result A EraseFault → Type 0
Compiles program result = IsNative program → IfErr result (λ fault. fault ≡ faults.Memory)
