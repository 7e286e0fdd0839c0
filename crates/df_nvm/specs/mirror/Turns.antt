-- What an instruction answers and does, against its effect.
use Rattle.std.specs.Prelude.{◌≡◌, ◌≢◌, ℕ, ◌<◌, ◌≤◌, List, [], ◌∷◌, ◌++◌, length, take, drop, reverse, Option, Some, None, Result, Ok, Err, Vec}
use Rattle.std.specs.declared.alloc.Global.{Global}
use Rattle.df_base.specs.Outside.{Appends, AppendsPrefix}
use Rattle.df_nmach.specs.Value.{Value, Char}
use Rattle.df_nmach.specs.State.{Heap, Frame, State}
use Rattle.df_nmach.specs.Step.{Effect, Goes, Calls, Broken, Stepped, On, Ended, at, stepped}
use Rattle.df_nmach.specs.Front.{with_front}
use Rattle.df_nvm.specs.declared.halt.Halt.{Halt}
use Rattle.df_nvm.specs.declared.halt.Halt.TheVariants as halts
use Rattle.df_nvm.specs.declared.halt.Turn.{Turn}
use Rattle.df_nvm.specs.declared.halt.Turn.TheVariants as turns

-- An instruction that prints nothing and goes on. For want of memory it leaves its frame as it was.
abbrev pub Works : Result Turn Halt → Heap → Frame → Frame → Effect → Type 0
Works (Ok turns.On) heap old new effect = effect ≡ Goes heap new []
Works (Ok (turns.Returned k)) heap old new effect = ⊥
Works (Err halts.Broken) heap old new effect = effect ≡ Broken
Works (Err halts.Write) heap old new effect = ⊥
Works (Err halts.Memory) heap old new effect = new ≡ old

-- A call: the frame that ran waits on top of those that waited. For want of memory all stays as it was.
abbrev pub Enters : Result Turn Halt → Frame → Frame → List Frame → List Frame → Effect → Type 0
Enters (Ok turns.On) old new before now effect = (f : Frame) × (effect ≡ Calls f new) × (now ≡ f ∷ before)
Enters (Ok (turns.Returned k)) old new before now effect = ⊥
Enters (Err halts.Broken) old new before now effect = effect ≡ Broken
Enters (Err halts.Write) old new before now effect = ⊥
Enters (Err halts.Memory) old new before now effect = (new ≡ old) × (now ≡ before)

-- The end of a frame with so many results: the first frame that waited runs with them on top; where none
-- waited all stays as it was.
abbrev pub Gives : Result Turn Halt → Frame → Frame → List Frame → List Frame → ℕ → Type 0
Gives (Ok turns.On) old new before now count =
    (count ≤ length old.operands) × (f : Frame) × (before ≡ f ∷ now) × (new ≡ at f f.next (take count old.operands ++ f.operands))
Gives (Ok (turns.Returned k)) old new before now count = (k ≡ count) × (count ≤ length old.operands) × (before ≡ []) × (new ≡ old) × (now ≡ before)
Gives (Err halts.Broken) old new before now count = length old.operands < count
Gives (Err halts.Write) old new before now count = ⊥
Gives (Err halts.Memory) old new before now count = ⊥

-- where the frame would go on and print something, a prefix of that is there
pub record Cuts (heap : Heap) (before now : Option (List ℕ)) (effect : Effect) : Type 0 where
  pub next : Frame
  pub text : List ℕ
  pub goes : effect ≡ Goes heap next text
  pub prints : text ≢ []
  pub puts : AppendsPrefix before now text

-- the frame went on, and what was to be printed is there
pub record Went (heap : Heap) (new : Frame) (before now : Option (List ℕ)) (effect : Effect) : Type 0 where
  pub text : List ℕ
  pub goes : effect ≡ Goes heap new text
  pub puts : Appends before now text

-- An instruction that prints. A halt leaves its frame as it was.
abbrev pub Puts : Result Turn Halt → Heap → Frame → Frame → Option (List ℕ) → Option (List ℕ) → Effect → Type 0
Puts (Ok turns.On) heap old new before now effect = Went heap new before now effect
Puts (Ok (turns.Returned k)) heap old new before now effect = ⊥
Puts (Err halts.Broken) heap old new before now effect = effect ≡ Broken
Puts (Err halts.Write) heap old new before now effect = Cuts heap before now effect × (new ≡ old)
Puts (Err halts.Memory) heap old new before now effect = (new ≡ old) × (now ≡ before)

-- where an effect leads from a state
abbrev pub lands : State → Effect → Stepped
lands s effect = stepped s.heap s.text (drop 1 s.frames) effect

-- the state went on, and what was to be printed is there
pub record GoesOn (old new : State) (before now : Option (List ℕ)) (effect : Effect) : Type 0 where
  pub text : List ℕ
  pub lands_on : lands old effect ≡ On (with_front text new)
  pub puts : Appends before now text

-- where the state would go on and print something, a prefix of that is there
pub record IsCut (old : State) (before now : Option (List ℕ)) (effect : Effect) : Type 0 where
  pub next : State
  pub lands_on : lands old effect ≡ On next
  pub prints : next.text ≢ []
  pub puts : AppendsPrefix before now next.text

-- Any instruction, of a state that has printed nothing; at the end the operands hold the results. A halt
-- leaves the state as it was.
abbrev pub Turns : Result Turn Halt → State → State → List Value → Option (List ℕ) → Option (List ℕ) → Effect → Type 0
Turns (Ok turns.On) old new operands before now effect = GoesOn old new before now effect
Turns (Ok (turns.Returned k)) old new operands before now effect =
    (lands old effect ≡ Ended (record { results = reverse (take k operands); heap = old.heap; text = [] })) × (k ≤ length operands) × (new ≡ old) × (now ≡ before)
Turns (Err halts.Broken) old new operands before now effect = effect ≡ Broken
Turns (Err halts.Write) old new operands before now effect = IsCut old before now effect × (new ≡ old)
Turns (Err halts.Memory) old new operands before now effect = (new ≡ old) × (now ≡ before)

-- What printing a value answers and puts, against its text.
abbrev pub Prints : Result (Unit {0}) Halt → Option (List ℕ) → Option (List ℕ) → Option (List ℕ) → Type 0
Prints (Ok _) before now printed = (text : List ℕ) × (printed ≡ Some text) × Appends before now text
Prints (Err halts.Broken) before now printed = printed ≡ None
Prints (Err halts.Write) before now printed = (text : List ℕ) × (printed ≡ Some text) × (text ≢ []) × AppendsPrefix before now text
Prints (Err halts.Memory) before now printed = now ≡ before

-- the characters that were read, against those that there are
abbrev pub Reads : Result (Vec ℕ Global) Halt → Option (List ℕ) → Type 0
Reads (Ok text) characters = characters ≡ Some text.items
Reads (Err halts.Broken) characters = characters ≡ None
Reads (Err halts.Write) characters = ⊥
Reads (Err halts.Memory) characters = Unit {0}

-- the character that a value is
abbrev pub char_in : Value → Option ℕ
char_in (Char c) = Some c
char_in v = None
