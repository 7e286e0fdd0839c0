-- States of a run.
use Rattle.std.specs.Prelude.{ℕ, ◌==◌, List, [], ◌∷◌, ◌++◌, Option, None, Some, if◌then◌else◌}
use Rattle.df_types.specs.Ty.{Tys}
use Rattle.df_types.specs.Program.{Param}
use Rattle.df_meaning2.specs.Value.{Value}
use Rattle.df_meaning2.specs.Heap.{Heap}

-- the locals by their numbers: the value of each, or that it has none
abbrev pub Locals : Type 0
Locals = ℕ → Option Value

abbrev pub set_local : Locals → ℕ → Option Value → Locals
set_local locals n v = λ k. if k == n then v else locals k

-- what calls share: the text so far, the heap, and the choices still to come
pub record Store : Type 0 where
  pub text : List ℕ
  pub heap : Heap
  pub choices : List (List Value)

pub record State : Type 0 where
  -- what type parameters stand for
  pub types : Tys
  pub locals : Locals
  -- of the binders around an expression, the innermost first
  pub bound : List Value
  -- the heap at entry
  pub entry : Heap
  -- which objects may be changed, and which may be read: all, or those of a set
  pub changeable : Value
  pub readable : Option Value
  pub store : Store

abbrev pub with_store : State → Store → State
with_store s store = record s { store = store }

abbrev pub with_local : State → ℕ → Option Value → State
with_local s n v = record s { locals = set_local s.locals n v }

abbrev pub with_bound : State → Value → State
with_bound s v = record s { bound = v ∷ s.bound }

abbrev pub with_heap : State → Heap → State
with_heap s heap = record s { store = record s.store { heap = heap } }

abbrev pub with_choices : State → List (List Value) → State
with_choices s choices = record s { store = record s.store { choices = choices } }

abbrev pub with_text : State → List ℕ → State
with_text s text = record s { store = record s.store { text = s.store.text ++ text } }

abbrev pub reading_all : State → State
reading_all s = record s { readable = None }

abbrev pub reading_inside : State → Value → State
reading_inside s readable = record s { readable = Some readable }

-- parameters and results have numbers of their own
abbrev pub given : List Param → List Value → Locals → Locals
given [] vs locals = locals
given (x ∷ xs) [] locals = locals
given (x ∷ xs) (v ∷ vs) locals = given xs vs (set_local locals x.local (Some v))

-- where a declaration begins, called in a state: the heap at entry is the present one, and all may be read
abbrev pub entering : Tys → List Param → List Value → State → State
entering types params arguments s =
    record { types = types; locals = given params arguments (λ n. None); bound = []; entry = s.store.heap; changeable = s.changeable; readable = None; store = s.store }
