-- What steps and runs answer and put, against the table.
use Rattle.std.specs.Prelude.{◌≡◌, ◌≢◌, ℕ, ◌<◌, ◌++◌, List, [], take, Option}
use Rattle.df_base.specs.Outside.{Appends, AppendsPrefix}
use Rattle.df_nmach.specs.Value.{Value}
use Rattle.df_nmach.specs.State.{Code, Heap, State, Final}
use Rattle.df_nmach.specs.View.{values_of, heap_of}
use Rattle.df_nmach.specs.Step as table
use Rattle.df_nmach.specs.Step.{machine_step}
use Rattle.df_nmach.specs.Run.{machine_run}
use Rattle.df_nmach.specs.Front.{with_front}
use Rattle.df_nvm.specs.declared.vm.Stepped.{Stepped}
use Rattle.df_nvm.specs.declared.vm.Stepped.TheVariants as steps
use Rattle.df_nvm.specs.declared.vm.Ran.{Ran}
use Rattle.df_nvm.specs.declared.vm.Ran.TheVariants as rans

-- a step leads to this state, which before had printed nothing, and the text of the step is put
pub record GoesOn (code : Code) (old new : State) (before now : Option (List ℕ)) : Type 0 where
  pub text : List ℕ
  pub steps : machine_step code old ≡ table.On (with_front text new)
  pub puts : Appends before now text

-- the step is the last one, and nothing is put
pub record IsLast (code : Code) (old : State) (before now : Option (List ℕ)) : Type 0 where
  pub final : Final
  pub steps : machine_step code old ≡ table.Ended final
  pub puts : now ≡ before

-- the step goes on and prints something, of which a prefix is put
pub record IsCut (code : Code) (old : State) (before now : Option (List ℕ)) : Type 0 where
  pub next : State
  pub steps : machine_step code old ≡ table.On next
  pub prints : next.text ≢ []
  pub puts : AppendsPrefix before now next.text

-- A step from a state that has printed nothing. Where it does not go on, the machine stands as before.
abbrev pub Steps : Stepped → Code → State → State → Option (List ℕ) → Option (List ℕ) → Type 0
Steps steps.On code old new before now = GoesOn code old new before now
Steps steps.Ended code old new before now = IsLast code old before now × (new ≡ old)
Steps steps.Write code old new before now = IsCut code old before now × (new ≡ old)
Steps steps.Memory code old new before now = (now ≡ before) × (new ≡ old)

-- the run ends within so many steps with these results and this heap, and its text is put
pub record Ends (code : Code) (start : State) (fuel : ℕ) (results : List Value) (heap : Heap) (before now : Option (List ℕ)) : Type 0 where
  pub text : List ℕ
  pub runs : machine_run code fuel start ≡ table.Ended (record { results = results; heap = heap; text = text })
  pub puts : Appends before now text

-- the run has not ended after so many steps, and its text so far is put
pub record HasRun (code : Code) (start : State) (steps : ℕ) (before now : Option (List ℕ)) : Type 0 where
  pub state : State
  pub runs : machine_run code steps start ≡ table.On state
  pub puts : Appends before now state.text

-- The run has not ended after so many steps, and the next one prints a text: the text so far is put, and a
-- prefix of that one.
pub record IsCutAfter (code : Code) (start : State) (steps : ℕ) (before now : Option (List ℕ)) : Type 0 where
  pub state : State
  pub next : State
  pub text : List ℕ
  pub count : ℕ
  pub runs : machine_run code steps start ≡ table.On state
  pub goes_on : machine_step code state ≡ table.On next
  pub prints : next.text ≡ state.text ++ text
  pub some : text ≢ []
  pub puts : Appends before now (state.text ++ take count text)

-- A run with so much fuel from a state that has printed nothing.
abbrev pub Runs : Ran → Code → State → ℕ → Option (List ℕ) → Option (List ℕ) → Type 0
Runs (rans.Ended results heap) code start fuel before now = Ends code start fuel (values_of results.items) (heap_of heap) before now
Runs rans.FuelSpent code start fuel before now = HasRun code start fuel before now
Runs rans.Write code start fuel before now = (steps : ℕ) × (steps < fuel) × IsCutAfter code start steps before now
Runs rans.Memory code start fuel before now = (steps : ℕ) × (steps < fuel) × HasRun code start steps before now
