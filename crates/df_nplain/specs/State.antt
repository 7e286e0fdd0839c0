-- States of a run without ghosts.
use Rattle.std.specs.Prelude.{ℕ, List, ◌++◌, slice_get, Option, None, Some}
use Rattle.df_meaning.specs.Value.{Value, text_of}
use Rattle.df_meaning.specs.State.{Locals, set_local}

-- the locals by their numbers, and the text printed so far
pub record State : Type 0 where
  pub locals : Locals
  pub text : List ℕ

abbrev pub value_at : State → ℕ → Option Value
value_at state local = state.locals local

abbrev pub with_text : State → List ℕ → State
with_text state text = record { locals = state.locals; text = text }

abbrev pub with_local : State → ℕ → Value → State
with_local state local value = record { locals = set_local state.locals local (Some value); text = state.text }

abbrev pub without_local : State → ℕ → State
without_local state local = record { locals = set_local state.locals local None; text = state.text }

-- the text of a value behind what is printed
abbrev pub printed : State → Value → State
printed state value = with_text state (state.text ++ text_of value)

-- a method begins with its arguments alone
abbrev pub begin : List Value → List ℕ → State
begin arguments text = record { locals = λ n. slice_get arguments n; text = text }
