-- What is promised of runs without ghosts.
use Rattle.std.specs.Prelude.{◌≡◌, ◌≢◌, ℕ, true, List, Some}
use Rattle.df_base.specs.declared.pos.Pos.{Pos}
use Rattle.df_lang.specs.Program.{Param, Method, Program, method_at, types_of}
use Rattle.df_lang.specs.Typing.{is_well_typed}
use Rattle.df_lang.specs.Native.{IsNative}
use Rattle.df_meaning.specs.Value.{Value}
use Rattle.df_meaning.specs.Types.{have_types}
use Rattle.df_meaning.specs.Outcome.{Gives}
use Rattle.df_meaning.specs.State.{Store}
use Rattle.df_meaning.specs.Meaning.{Returned}
use Rattle.df_meaning.specs.Whole.{run_method, whole}
use Rattle.df_meaning.specs.Correct.{MeetsPreconditions, IsCorrect}
use Rattle.df_nplain.specs.Plain as plain
use Rattle.df_nplain.specs.Bounded.{is_bounded_program}
use Rattle.df_nplain.specs.Counts.{has_counts}
use Rattle.df_nplain.specs.Values.{have_kinds}
use Rattle.df_nplain.specs.Outcome as outcomes
use Rattle.df_nplain.specs.Outcome.{Fault}
use Rattle.df_nplain.specs.Whole as plain_whole
use Rattle.df_nerase.specs.Erasing.{method_number, kinds_of, erase_method, erased, lower}
use Rattle.df_nerase.specs.Simulation.{Simulates, returned_of}

-- In a well-typed program that keeps the native rules each number at a place, and each result of arithmetic, has an interval.
abbrev pub NativeProgramsAreBounded : Type 0
NativeProgramsAreBounded = (program : Program) → is_well_typed program ≡ true → IsNative program → is_bounded_program (erased program) ≡ true

-- Without the ghosts of a well-typed program calls and updates have as many values as are asked for.
abbrev pub CountsAreKept : Type 0
CountsAreKept = (program : Program) → is_well_typed program ≡ true → has_counts (erased program) ≡ true

-- Methods are found under their new numbers.
abbrev pub MethodsAreFound : Type 0
MethodsAreFound = (program : Program) (number : ℕ) (method : Method) → method_at program number ≡ Some method → plain.method_at (erased program) (method_number program number) ≡ Some (erase_method program method)

-- Where a whole run of a method of a well-typed program ends, the run without ghosts ends at that depth with the same results and text.
abbrev pub MethodsAreSimulated : Type 0
MethodsAreSimulated = (program : Program) → is_well_typed program ≡ true → (depth number : ℕ) (pos : Pos) (method : Method) (arguments : List Value) (store : Store) → method_at program number ≡ Some method
    → have_types program (types_of method.parameters) arguments ≡ true
    → Simulates returned_of (run_method (whole program depth) pos method arguments store) (plain_whole.run_method (plain_whole.whole (erased program) depth) (erase_method program method) arguments store.text)

-- In a well-typed program that keeps the native rules the values of its methods' parameters have values without ghosts, which are of
-- the kinds of their places.
pub record AreLowered (program : Program) (params : List Param) (values : List Value) : Type 0 where
  pub kept : List Value
  pub lowered : lower params values ≡ Some kept
  pub are_of_kinds : have_kinds (kinds_of program params) kept ≡ true

abbrev pub ArgumentsAreLowered : Type 0
ArgumentsAreLowered = (program : Program) → is_well_typed program ≡ true → IsNative program → (number : ℕ) (method : Method) → method_at program number ≡ Some method
    → (arguments : List Value) → have_types program (types_of method.parameters) arguments ≡ true → AreLowered program method.parameters arguments

-- And so have those of their results.
abbrev pub ResultsAreLowered : Type 0
ResultsAreLowered = (program : Program) → is_well_typed program ≡ true → IsNative program → (number : ℕ) (method : Method) → method_at program number ≡ Some method
    → (results : List Value) → have_types program (types_of method.results) results ≡ true → AreLowered program method.results results

-- The run of a method ends. So does the run without ghosts on its arguments without ghosts, at the same depth, with its results without
-- ghosts and its text; and that run is stuck or wrong at no depth.
pub record RunsAlike (program : Program) (method : Method) (arguments : List Value) (store : Store) : Type 0 where
  pub depth : ℕ
  pub returned : Returned
  pub given : List Value
  pub left : List Value
  pub ends : run_method (whole program depth) method.declared.pos method arguments store ≡ Gives returned
  pub begins_lowered : lower method.parameters arguments ≡ Some given
  pub ends_lowered : lower method.results returned.values ≡ Some left
  pub ends_alike : plain_whole.run_method (plain_whole.whole (erased program) depth) (erase_method program method) given store.text ≡ outcomes.Gives (record { values = left; text = returned.store.text })
  pub never_stuck : (other : ℕ) → plain_whole.run_method (plain_whole.whole (erased program) other) (erase_method program method) given store.text ≢ outcomes.Stuck
  pub never_wrong : (other : ℕ) (fault : Fault) → plain_whole.run_method (plain_whole.whole (erased program) other) (erase_method program method) given store.text ≢ outcomes.Wrong fault

-- Correct methods of a well-typed program that keeps the native rules run so, on arguments of their types that meet the preconditions.
abbrev pub CorrectMethodsRunAlike : Type 0
CorrectMethodsRunAlike = (program : Program) → is_well_typed program ≡ true → IsNative program → (number : ℕ) (method : Method) → method_at program number ≡ Some method → IsCorrect program method
    → (arguments : List Value) (store : Store) → have_types program (types_of method.parameters) arguments ≡ true → MeetsPreconditions program method arguments store
    → RunsAlike program method arguments store
