-- The run of Main by the machine.
use Rattle.std.specs.Prelude.{◌≡◌, ◌<◌, ◌⊎◌, ℕ, List, Option}
use Rattle.df_base.specs.Outside.{Appends, AppendsPrefix}
use Rattle.df_lang.specs.Program.{Method, Program}
use Rattle.df_meaning.specs.Correct.{IsEntry}
use Rattle.df_nmach.specs.State.{Code}
use Rattle.df_nerase.specs.Erasing.{method_number}
use Rattle.df_nback.specs.Run.{IsCompiled, RunsAsEntry}
use Rattle.df_ntop.specs.Call.{HasEnded, IsUnended}
use Rattle.df_ntop.specs.declared.machine.Ran.{Ran}
use Rattle.df_ntop.specs.declared.machine.Ran.TheVariants as rans

-- The method of this number is the entry. A run of it with its ghosts, which satisfies all that it demands, prints the text,
-- and the program's code never faults and ends after some number of steps with the same text.
pub record IsRunOf (program : Program) (number : ℕ) (code : Code) (text : List ℕ) : Type 0 where
  pub method : Method
  pub entry : IsEntry program number method
  pub compiled : IsCompiled program code
  pub runs : RunsAsEntry program code number method
  pub prints : runs.returned.store.text ≡ text

-- the whole text is put, or a prefix of it, of a run of Main
pub record IsCutOff (program : Program) (code : Code) (number : ℕ) (old new : Option (List ℕ)) : Type 0 where
  pub whole : List ℕ
  pub run : IsRunOf program number code whole
  pub puts : AppendsPrefix old new whole

-- of a run of Main the text after some whole number of steps is put, fewer than the fuel
pub record IsStopped (program : Program) (code : Code) (number fuel : ℕ) (old new : Option (List ℕ)) : Type 0 where
  pub whole : List ℕ
  pub run : IsRunOf program number code whole
  pub steps : ℕ
  pub few : steps < fuel
  pub text : List ℕ
  pub unended : IsUnended code (method_number program number) steps whole text
  pub puts : Appends old new text

-- what a run of Main with so much fuel answers and puts
abbrev pub RunsMain : Ran → Program → Code → ℕ → ℕ → Option (List ℕ) → Option (List ℕ) → Type 0
RunsMain rans.Ended program code number fuel old new =
    (text : List ℕ) × IsRunOf program number code text × HasEnded code (method_number program number) fuel text × Appends old new text
RunsMain rans.FuelSpent program code number fuel old new =
    (whole text : List ℕ) × IsRunOf program number code whole × IsUnended code (method_number program number) fuel whole text × Appends old new text
RunsMain rans.Write program code number fuel old new = IsCutOff program code number old new
RunsMain rans.Memory program code number fuel old new = (new ≡ old) ⊎ IsStopped program code number fuel old new
