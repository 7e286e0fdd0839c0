-- The code does what the program does.
use Rattle.std.specs.Prelude.{◌≡◌, ℕ, true, false, Bool, List, [], ◌∷◌, ◌++◌, map, length, reverse, Some, slice_get}
use Rattle.std.specs.List.{list_all}
use Rattle.df_meaning.specs.Value.{Value, Truth, Character, Number, Text}
use Rattle.df_nplain.specs.Plain.{Method, Plain, method_at}
use Rattle.df_nplain.specs.Outcome.{Gives}
use Rattle.df_nplain.specs.Meaning.{Returned}
use Rattle.df_nplain.specs.Whole.{run_method, whole}
use Rattle.df_nmach.specs.Value as mach
use Rattle.df_nmach.specs.State.{Code, Heap, Frame, State}
use Rattle.df_nmach.specs.State as machine
use Rattle.df_nmach.specs.Step as step
use Rattle.df_nmach.specs.Step.{Stepped, beginning, at}
use Rattle.df_nmach.specs.Run.{machine_run}
use Rattle.df_nemit.specs.Ending.{machine_value, EndsWith}

-- a value of a local: no text
abbrev pub is_simple : Value → Bool
is_simple (Truth b) = true
is_simple (Character c) = true
is_simple (Number n) = true
is_simple (Text characters) = false

-- the method of a number begins on these arguments, above frames that wait, with this heap, and this text was printed
abbrev pub called : ℕ → machine.Method → List mach.Value → Heap → List Frame → List ℕ → State
called number m arguments heap waiting text = record { heap = heap; frames = beginning number m arguments ∷ waiting; text = text }

-- The frame that waits has these results on top, or the machine has ended with them where none waits.
abbrev pub returned : List mach.Value → Heap → List Frame → List ℕ → Stepped
returned results heap [] text = step.Ended (record { results = results; heap = heap; text = text })
returned results heap (f ∷ waiting) text = step.On (record { heap = heap; frames = at f f.next (reverse results ++ f.operands) ∷ waiting; text = text })

-- some steps lead from the state to this
pub record Reaches (code : Code) (start : State) (end : Stepped) : Type 0 where
  pub steps : ℕ
  pub runs : machine_run code steps start ≡ end

-- The code has the method of the number, and its call on these arguments comes to these results, whose run has printed
-- this text by then. What waits, and the heap, are as they were.
pub record ComesTo (code : Code) (number : ℕ) (arguments : List mach.Value) (heap : Heap) (waiting : List Frame) (text : List ℕ) (results : List mach.Value) (printed : List ℕ) : Type 0 where
  pub method : machine.Method
  pub there : slice_get code.methods number ≡ Some method
  pub reaches : Reaches code (called number method arguments heap waiting text) (returned results heap waiting printed)

-- Where a method comes to results, at any depth, its code comes to them: in a call, whatever waits, and from the beginning.
pub record DoesWhat (plain : Plain) (code : Code) : Type 0 where
  pub calls : (depth number : ℕ) (method : Method) (arguments : List Value) (text : List ℕ) (result : Returned)
      → method_at plain number ≡ Some method
      → length arguments ≡ length method.parameters
      → list_all is_simple arguments ≡ true
      → run_method (whole plain depth) method arguments text ≡ Gives result
      → (heap : Heap) (waiting : List Frame)
      → ComesTo code number (map machine_value arguments) heap waiting text (map machine_value result.values) result.text
  pub begins : (depth number : ℕ) (method : Method) (arguments : List Value) (result : Returned)
      → method_at plain number ≡ Some method
      → length arguments ≡ length method.parameters
      → list_all is_simple arguments ≡ true
      → run_method (whole plain depth) method arguments [] ≡ Gives result
      → (heap : Heap)
      → EndsWith code number heap (map machine_value arguments) (map machine_value result.values) result.text
