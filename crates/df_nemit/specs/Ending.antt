-- How the machine ends, in the values of the program.
use Rattle.std.specs.Prelude.{◌≡◌, ℕ, List}
use Rattle.df_meaning.specs.Value.{Value, Truth, Character, Number, Text}
use Rattle.df_nmach.specs.Value as mach
use Rattle.df_nmach.specs.State.{Code, Heap, State}
use Rattle.df_nmach.specs.Step as step
use Rattle.df_nmach.specs.Run.{machine_run, start_of, NeverFaults}

abbrev pub machine_value : Value → mach.Value
machine_value (Truth b) = mach.Truth b
machine_value (Character c) = mach.Char c
machine_value (Number n) = mach.Number n
machine_value (Text characters) = mach.Text characters

-- The machine begins with the method of the number on these arguments, no number of steps from there faults, and after
-- some number it has ended with these results and this text, and the heap is as it was.
pub record EndsWith (code : Code) (number : ℕ) (heap : Heap) (arguments results : List mach.Value) (text : List ℕ) : Type 0 where
  pub start : State
  pub begins : start_of code number heap arguments ≡ step.On start
  pub never_faults : NeverFaults code (start_of code number heap arguments)
  pub steps : ℕ
  pub ends : machine_run code steps start ≡ step.Ended (record { results = results; heap = heap; text = text })
