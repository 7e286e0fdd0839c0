-- States of a run.
use Rattle.std.specs.Prelude.{ℕ, ◌==◌, List, ◌++◌, slice_get, Option, None, Some, if◌then◌else◌}
use Rattle.df_meaning.specs.Value.{Value, text_of}

-- The locals by their numbers: the value of each, or that it has none.
abbrev pub Locals : Type 0
Locals = ℕ → Option Value

-- What is handed to a modular run: what a call gives, and the text by then; or what the locals of a loop are
-- before a turn of it, and the text by then.
pub data Handed : Type 0 where
  Given : (values : List Value) (text : List ℕ) → Handed
  Turned : (locals : Locals) (text : List ℕ) → Handed

-- what calls share: the text printed so far, and what is still to be handed in
pub record Store : Type 0 where
  pub text : List ℕ
  pub handed : List Handed

pub record State : Type 0 where
  pub locals : Locals
  pub store : Store

-- another value at a number, or none
abbrev pub set_local : Locals → ℕ → Option Value → Locals
set_local locals n value = λ k. if k == n then value else locals k

abbrev pub value_at : State → ℕ → Option Value
value_at state local = state.locals local

abbrev pub with_locals : State → Locals → State
with_locals state locals = record { locals = locals; store = state.store }

abbrev pub with_store : State → Store → State
with_store state store = record { locals = state.locals; store = store }

abbrev pub with_local : State → ℕ → Value → State
with_local state local value = with_locals state (set_local state.locals local (Some value))

abbrev pub without_local : State → ℕ → State
without_local state local = with_locals state (set_local state.locals local None)

abbrev pub store_with : List ℕ → List Handed → Store
store_with text handed = record { text = text; handed = handed }

abbrev pub with_text : Store → List ℕ → Store
with_text store text = store_with text store.handed

-- the text of a value behind what is printed
abbrev pub printed : State → Value → State
printed state value = with_store state (with_text state.store (state.store.text ++ text_of value))

-- a method begins with its arguments alone
abbrev pub begin : List Value → Store → State
begin arguments store = record { locals = λ n. slice_get arguments n; store = store }
