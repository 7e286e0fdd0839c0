-- Runs of the machine.
use Rattle.std.specs.Prelude.{◌≢◌, ℕ, zero, suc, List, [], ◌∷◌, length, nat_eq, cond, Option, Some, None, slice_get}
use Rattle.df_mach2.specs.Value.{Value}
use Rattle.df_mach2.specs.State.{Method, Code, Heap, State}
use Rattle.df_mach2.specs.Step.{Stepped, On, Ended, Fault, Huge, beginning, machine_step}

-- goes on from a state; an end, a fault and want of room stay
abbrev pub and_then : Stepped → (State → Stepped) → Stepped
and_then (On s) go = go s
and_then (Ended final) go = Ended final
and_then Fault go = Fault
and_then Huge go = Huge

-- what there is after so many steps
abbrev pub machine_run : Code → ℕ → State → Stepped
machine_run code zero s = On s
machine_run code (suc k) s = and_then (machine_step code s) (machine_run code k)

-- the beginning of a method, which has to be there and to have so many parameters
abbrev pub begun : ℕ → Heap → List Value → Option Method → Stepped
begun number heap arguments None = Fault
begun number heap arguments (Some m) = cond (nat_eq (length arguments) m.parameters) (On (record { heap = heap; frames = beginning number m arguments ∷ []; text = [] })) Fault

-- the beginning of the method of a number with these arguments
abbrev pub start_of : Code → ℕ → Heap → List Value → Stepped
start_of code number heap arguments = begun number heap arguments (slice_get code.methods number)

-- no number of steps from here breaks a demand
pub record NeverFaults (code : Code) (start : Stepped) : Type 0 where
  pub never : (k : ℕ) → and_then start (machine_run code k) ≢ Fault
