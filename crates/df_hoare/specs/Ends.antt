-- How whole runs end: a method with what it owes, a loop by its guard or by a `break`.
use Rattle.std.specs.Prelude.{◌≡◌, ◌⊎◌, ℕ, true, false, List, ◌++◌, Some}
use Rattle.df_base.specs.declared.pos.Pos.{Pos}
use Rattle.df_lang.specs.Stmt.{Clause}
use Rattle.df_lang.specs.Program.{Method, Program, method_at, types_of}
use Rattle.df_lang.specs.Typing.{is_well_typed}
use Rattle.df_meaning.specs.Value.{Value, truth_of}
use Rattle.df_meaning.specs.Types.{have_types}
use Rattle.df_meaning.specs.Outcome.{Gives}
use Rattle.df_meaning.specs.State.{Store, State, begin}
use Rattle.df_meaning.specs.Meaning.{Returned, Loop}
use Rattle.df_meaning.specs.Meaning as flows
use Rattle.df_meaning.specs.Evaluation.{evaluate}
use Rattle.df_meaning.specs.Execution.{execute_all}
use Rattle.df_meaning.specs.Whole.{run_method, whole}
use Rattle.df_meaning.specs.Modular.{assume_all, plain_meaning}

-- the clauses are true of the state
abbrev pub AreTrue : Program → State → List Clause → Type 0
AreTrue program s clauses = assume_all (plain_meaning program) s clauses ≡ Gives s

-- Where a run of a method ends, its postconditions are true of the arguments and of what it gives.
abbrev pub MethodsMeetPostconditions : Type 0
MethodsMeetPostconditions = (program : Program) (depth number : ℕ) (pos : Pos) (method : Method) (arguments : List Value) (store : Store) (returned : Returned)
    → is_well_typed program ≡ true → method_at program number ≡ Some method → have_types program (types_of method.parameters) arguments ≡ true
    → run_method (whole program depth) pos method arguments store ≡ Gives returned → AreTrue program (begin (arguments ++ returned.values) returned.store) method.postconditions

-- the invariants are true there, and the guard is not
pub record EndsByGuard (program : Program) (loop : Loop) (s : State) : Type 0 where
  pub invariants : AreTrue program s loop.invariants
  pub value : Value
  pub guard : evaluate (plain_meaning program) s loop.guard ≡ Gives value
  pub untrue : truth_of value ≡ false

-- a turn from where the invariants are true broke out there
pub record EndsByBreak (program : Program) (loop : Loop) (s : State) : Type 0 where
  pub depth : ℕ
  pub start : State
  pub invariants : AreTrue program start loop.invariants
  pub turn : execute_all (whole program depth) start loop.body ≡ Gives (flows.Break s)

-- Where a run goes on behind a loop, it is one of both.
abbrev pub LoopsEnd : Type 0
LoopsEnd = (program : Program) (depth : ℕ) (loop : Loop) (s t : State) → AreTrue program s loop.invariants → (whole program depth).turns loop s ≡ Gives (flows.Next t)
    → EndsByGuard program loop t ⊎ EndsByBreak program loop t
