-- Modular safety gives total correctness.
use Rattle.std.specs.Prelude.{◌≡◌, ℕ, true, Some}
use Rattle.df_types.specs.Program.{Program, Function, function_at}
use Rattle.df_types.specs.Typing.{is_program}
use Rattle.df_meaning2.specs.Correct.{IsSafe, IsCorrectFunction}

abbrev pub FunctionsAreCorrect : Type 0
FunctionsAreCorrect = (p : Program) → is_program p ≡ true → IsSafe p → (number : ℕ) (f : Function) → function_at p number ≡ Some f → IsCorrectFunction p number f
