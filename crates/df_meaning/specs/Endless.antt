-- Runs that never end: no depth is enough for them.
use Rattle.std.specs.Prelude.{◌≡◌, ℕ, Bool, true, List, Some}
use Rattle.df_base.specs.declared.pos.Pos.{Pos}
use Rattle.df_lang.specs.Program.{Method, Program, method_at}
use Rattle.df_meaning.specs.declared.kind.Kind.TheVariants as kinds
use Rattle.df_meaning.specs.Value as values
use Rattle.df_meaning.specs.Outcome.{Gives, TooDeep}
use Rattle.df_meaning.specs.State.{Store, State}
use Rattle.df_meaning.specs.Meaning.{Meaning, Loop}
use Rattle.df_meaning.specs.Meaning as flows
use Rattle.df_meaning.specs.Evaluation.{evaluate}
use Rattle.df_meaning.specs.Execution.{check_all, execute_all}
use Rattle.df_meaning.specs.Whole.{run_method, whole}

-- A turn of the loop goes on to a state of the kind, where the invariants are true.
pub record GoesOn (m : Meaning) (loop : Loop) (kind : State → Bool) (s : State) : Type 0 where
  pub state : State
  pub turn : execute_all m s loop.body ≡ Gives (flows.Next state)
  pub checked : check_all m state kinds.Turn loop.invariants ≡ Gives state
  pub again : kind state ≡ true

-- In each state of the kind the guard is true, and a turn goes on to another.
pub record IsEndlessLoop (program : Program) (loop : Loop) (kind : State → Bool) : Type 0 where
  pub guard : (m : Meaning) (s : State) → m.program ≡ program → kind s ≡ true → evaluate m s loop.guard ≡ Gives (values.Truth true)
  pub turn : (m : Meaning) (s : State) → m.program ≡ program → kind s ≡ true → GoesOn m loop kind s

-- Such a loop is too deep at every depth.
abbrev pub LoopsNeverEnd : Type 0
LoopsNeverEnd = (program : Program) (loop : Loop) (kind : State → Bool) → IsEndlessLoop program loop kind → (depth : ℕ) (s : State) → kind s ≡ true → (whole program depth).turns loop s ≡ TooDeep

-- On arguments of the kind the method is too deep where each call of it on arguments of the kind is: it makes one before it can end.
pub record IsEndlessMethod (program : Program) (number : ℕ) (method : Method) (kind : List values.Value → Bool) : Type 0 where
  pub declared : method_at program number ≡ Some method
  pub calls : (m : Meaning) → m.program ≡ program → ((pos : Pos) (arguments : List values.Value) (store : Store) → kind arguments ≡ true → m.call pos number arguments store ≡ TooDeep)
      → (pos : Pos) (arguments : List values.Value) (store : Store) → kind arguments ≡ true → run_method m pos method arguments store ≡ TooDeep

-- Such a method is too deep at every depth.
abbrev pub MethodsNeverEnd : Type 0
MethodsNeverEnd = (program : Program) (number : ℕ) (method : Method) (kind : List values.Value → Bool) → IsEndlessMethod program number method kind
    → (depth : ℕ) (pos : Pos) (arguments : List values.Value) (store : Store) → kind arguments ≡ true → run_method (whole program depth) pos method arguments store ≡ TooDeep
