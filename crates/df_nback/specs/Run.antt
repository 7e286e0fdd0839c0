-- Runs of methods with their ghosts, and on the machine: their arguments and results there, and the code of a program.
use Rattle.std.specs.Prelude.{◌≡◌, ℕ, true, List, [], Some, map, Option}
use Rattle.df_lang.specs.Program.{Method, Program, method_at, types_of, Param}
use Rattle.df_meaning.specs.Value.{Value}
use Rattle.df_meaning.specs.Types.{have_types}
use Rattle.df_meaning.specs.Outcome.{Gives}
use Rattle.df_meaning.specs.State.{Store, store_with}
use Rattle.df_meaning.specs.Meaning.{Returned}
use Rattle.df_meaning.specs.Whole.{run_method, whole}
use Rattle.df_meaning.specs.Correct.{MeetsPreconditions, IsCorrect}
use Rattle.df_nerase.specs.Erasing.{method_number, erased}
use Rattle.df_nmach.specs.Value as machine
use Rattle.df_nmach.specs.State.{Code, Heap}
use Rattle.df_nmach.specs.Run.{start_of, NeverFaults}
use Rattle.df_nemit.specs.Ending.{EndsWith, machine_value}
use Rattle.std.specs.Option.{option_map}
use Rattle.df_nerase.specs.Erasing as erasing
use Rattle.df_nemit.specs.Code.{plain_code}

-- nothing is printed, and nothing is left to be handed in
abbrev pub nothing_yet : Store
nothing_yet = store_with [] []

-- The values of places on the machine, one for each place that is no ghost's. There are such values where the places keep
-- the rule on their types.
abbrev pub lower : List Param → List Value → Option (List machine.Value)
lower params values = option_map (map machine_value) (erasing.lower params values)

-- The whole run of a method with its ghosts ends, at some depth: so it satisfies every assertion, invariant and contract
-- on its way. On the machine, over any heap, the method begins with the arguments lowered, no number of steps faults, and
-- some number of them ends with the results lowered, the same text, and the heap as it was.
pub record RunsAs (program : Program) (code : Code) (number : ℕ) (method : Method) (arguments : List Value) : Type 0 where
  pub depth : ℕ
  pub returned : Returned
  pub ends : run_method (whole program depth) method.declared.pos method arguments nothing_yet ≡ Gives returned
  pub given : List machine.Value
  pub begins_lowered : lower method.parameters arguments ≡ Some given
  pub left : List machine.Value
  pub ends_lowered : lower method.results returned.values ≡ Some left
  pub on_machine : (heap : Heap) → EndsWith code (method_number program number) heap given left returned.store.text

-- the instructions of the program without its ghosts
abbrev pub code_for : Program → Code
code_for program = plain_code (erased program)

-- The code is the program's, and every correct method runs so on it, on all arguments of the types of its parameters that
-- meet its preconditions.
pub record IsCompiled (program : Program) (code : Code) : Type 0 where
  pub is : code ≡ code_for program
  pub runs : (number : ℕ) (method : Method) → method_at program number ≡ Some method → IsCorrect program method
      → (arguments : List Value) → have_types program (types_of method.parameters) arguments ≡ true → MeetsPreconditions program method arguments nothing_yet
      → RunsAs program code number method arguments

-- The same of an entry, which has neither arguments nor results: it prints the text.
pub record RunsAsEntry (program : Program) (code : Code) (number : ℕ) (method : Method) : Type 0 where
  pub depth : ℕ
  pub returned : Returned
  pub ends : run_method (whole program depth) method.declared.pos method [] nothing_yet ≡ Gives returned
  pub on_machine : (heap : Heap) → EndsWith code (method_number program number) heap [] [] returned.store.text

-- From where every correct method begins, on such arguments, no number of steps faults.
abbrev pub NeverFaultsWhereCorrect : Program → Code → Type 0
NeverFaultsWhereCorrect program code =
    (number : ℕ) (method : Method) → method_at program number ≡ Some method → IsCorrect program method
    → (arguments : List Value) → have_types program (types_of method.parameters) arguments ≡ true → MeetsPreconditions program method arguments nothing_yet
    → (given : List machine.Value) → lower method.parameters arguments ≡ Some given
    → (heap : Heap) → NeverFaults code (start_of code (method_number program number) heap given)
