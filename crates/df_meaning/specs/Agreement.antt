-- That runs agree with where they begin on what they don't assign.
use Rattle.std.specs.Prelude.{◌≡◌, ◌<◌, ℕ, ◌==◌, Bool, true, false, List, length, Some}
use Rattle.std.specs.List.{list_any}
use Rattle.df_lang.specs.Stmt.{Stmt}
use Rattle.df_lang.specs.Program.{Method, Program, method_at}
use Rattle.df_lang.specs.Typing.{is_well_typed}
use Rattle.df_meaning.specs.Outcome.{Gives}
use Rattle.df_meaning.specs.State.{State, value_at}
use Rattle.df_meaning.specs.Meaning.{Flow}
use Rattle.df_meaning.specs.Meaning as flows
use Rattle.df_meaning.specs.Execution.{execute}
use Rattle.df_meaning.specs.Whole.{run_body, whole}
use Rattle.df_meaning.specs.Modular.{Changed, changed_by}

-- the local is one of them
abbrev pub is_changed : List Changed → ℕ → Bool
is_changed changed n = list_any (λ (c : Changed). c.local == n) changed

-- other locals have the values that they had, where the run goes on behind the statement or behind its loop
abbrev pub Agrees : List Changed → State → Flow → Type 0
Agrees changed s (flows.Next t) = (local : ℕ) → is_changed changed local ≡ false → value_at t local ≡ value_at s local
Agrees changed s (flows.Break t) = (local : ℕ) → is_changed changed local ≡ false → value_at t local ≡ value_at s local
Agrees changed s (flows.Return t) = Unit {0}

-- A whole run of a statement leaves the locals that it neither declares nor assigns.
abbrev pub StatementsAgree : Type 0
StatementsAgree = (program : Program) (depth : ℕ) (s : State) (stmt : Stmt) (flow : Flow) → execute (whole program depth) s stmt ≡ Gives flow → Agrees (changed_by stmt) s flow

-- In a well-typed program the body of a method leaves its parameters, also where it returns: contracts that are read
-- behind it speak of the arguments.
abbrev pub ParametersStay : Type 0
ParametersStay = (program : Program) (depth number : ℕ) (method : Method) (s t : State) (local : ℕ) → is_well_typed program ≡ true → method_at program number ≡ Some method
    → local < length method.parameters → run_body (whole program depth) method s ≡ Gives t → value_at t local ≡ value_at s local
