-- What a step of the machine does.
use Rattle.std.specs.Prelude.{ℕ, ◌+◌, ◌-◌, pos, Bool, true, false, cond, nat_lt, nat_le, List, [], ◌∷◌, ◌++◌, length, take, drop, Option, Some, None, slice_get, slice_set, replicate}
use Rattle.df_mach2.specs.declared.op.Op.{Op}
use Rattle.df_mach2.specs.declared.instruction.Instruction.{Instruction}
use Rattle.df_mach2.specs.declared.instruction.Instruction.TheVariants as instructions
use Rattle.df_mach2.specs.Value.{Value, Number, is_truth, truth_in, nth}
use Rattle.df_mach2.specs.Row as rows
use Rattle.df_mach2.specs.Row.{row, found, taken}
use Rattle.df_mach2.specs.Text.{text_of}
use Rattle.df_mach2.specs.State.{Method, Code, Heap, Frame, State, Final}

-- What an instruction does: the heap becomes this one, its frame goes on as this one, and the text is printed; or
-- its frame waits as the first one, above which the second one begins; or its frame ends with these results; or a
-- demand is broken; or a list is too long for any memory.
pub data Effect : Type 0 where
  Goes : Heap → Frame → List ℕ → Effect
  Calls : Frame → Frame → Effect
  Returns : List Value → Effect
  Broken : Effect
  TooLong : Effect

-- A state goes to a state, or it is the end, or a demand is broken, or there is no room in any memory for a list of
-- more than 2^63 - 1 members.
pub data Stepped : Type 0 where
  On : State → Stepped
  Ended : Final → Stepped
  Fault : Stepped
  Huge : Stepped

-- goes on with what there is, and it has to be there
abbrev pub given : {A : Type 0} → Option A → (A → Effect) → Effect
given None go = Broken
given (Some x) go = go x

-- goes on where the test is true, and it has to be
abbrev pub demand : Bool → Effect → Effect
demand true go = go
demand false go = Broken

-- goes on with a result that is found
abbrev pub with_found : rows.Found → (Value → Effect) → Effect
with_found (rows.Gives v) go = go v
with_found rows.Broken go = Broken
with_found rows.TooLong go = TooLong

-- so many values on top, the deepest first, and the others
abbrev pub top : ℕ → List Value → List Value
top n vs = drop (length vs - n) vs

abbrev pub rest : ℕ → List Value → List Value
rest n vs = take (length vs - n) vs

-- goes on with the others and the value on top, which has to be there
abbrev pub popped : List Value → (List Value → Value → Effect) → Effect
popped vs go = demand (nat_lt 0 (length vs)) (go (rest 1 vs) (nth vs (length vs - 1)))

-- the frame at this instruction, with these operands
abbrev pub at : Frame → ℕ → List Value → Frame
at f place operands = record { method = f.method; next = place; locals = f.locals; operands = operands }

-- the frame at its next instruction, with these operands
abbrev pub after : Frame → List Value → Frame
after f operands = at f (f.next + 1) operands

-- the frame goes on to its next instruction, with these operands; the heap stays, and nothing is printed
abbrev pub leaves : Heap → Frame → List Value → Effect
leaves heap f operands = Goes heap (after f operands) []

-- the frame in which a method begins: locals past the parameters are the number 0
abbrev pub beginning : ℕ → Method → List Value → Frame
beginning number m arguments = record { method = number; next = 0; locals = arguments ++ replicate m.locals (Number (pos 0)); operands = [] }

-- ---- the table of instructions

-- pops operands, and pushes the result
abbrev pub strict_row : Heap → Frame → Op → Effect
strict_row heap f op =
    demand (nat_le (taken op) (length f.operands)) (with_found (found (row op (top (taken op) f.operands))) (λ v. leaves heap f (rest (taken op) f.operands ++ v ∷ [])))

abbrev pub get_row : Heap → Frame → ℕ → Effect
get_row heap f i = given (slice_get f.locals i) (λ v. leaves heap f (f.operands ++ v ∷ []))

abbrev pub set_row : Heap → Frame → ℕ → Effect
set_row heap f i =
    popped f.operands (λ others v. demand (nat_lt i (length f.locals)) (Goes heap (record { method = f.method; next = f.next + 1; locals = slice_set f.locals i v; operands = others }) []))

abbrev pub drop_row : Heap → Frame → Effect
drop_row heap f = popped f.operands (λ others v. leaves heap f others)

-- goes to one of so many instructions
abbrev pub jump_row : Heap → ℕ → Frame → ℕ → Effect
jump_row heap count f p = demand (nat_lt p count) (Goes heap (at f p f.operands) [])

abbrev pub unless_row : Heap → ℕ → Frame → ℕ → Effect
unless_row heap count f p =
    popped f.operands (λ others v. demand (is_truth v) (demand (nat_lt p count) (Goes heap (at f (cond (truth_in v) (f.next + 1) p) others) [])))

-- the method begins with its parameters, of which the first is deepest; the frame waits without them
abbrev pub call_row : Frame → ℕ → Method → Effect
call_row f number m =
    demand (nat_le m.parameters (length f.operands)) (Calls (after f (rest m.parameters f.operands)) (beginning number m (top m.parameters f.operands)))

abbrev pub return_row : Frame → ℕ → Effect
return_row f k = demand (nat_le k (length f.operands)) (Returns (top k f.operands))

abbrev pub print_row : Code → Heap → Frame → ℕ → Effect
print_row code heap f s = popped f.operands (λ others v. given (text_of code.shapes v s) (λ text. Goes heap (after f others) text))

abbrev pub effect : Code → Method → Heap → Frame → Instruction → Effect
effect code m heap f (instructions.Strict op) = strict_row heap f op
effect code m heap f (instructions.Get i) = get_row heap f i
effect code m heap f (instructions.Set i) = set_row heap f i
effect code m heap f instructions.Drop = drop_row heap f
effect code m heap f (instructions.Jump p) = jump_row heap (length m.instructions) f p
effect code m heap f (instructions.Unless p) = unless_row heap (length m.instructions) f p
effect code m heap f (instructions.Call number) = given (slice_get code.methods number) (call_row f number)
effect code m heap f (instructions.Return k) = return_row f k
effect code m heap f (instructions.Print s) = print_row code heap f s

-- what the next instruction of a frame does
abbrev pub next_effect : Code → Heap → Frame → Effect
next_effect code heap f = given (slice_get code.methods f.method) (λ m. given (slice_get m.instructions f.next) (effect code m heap f))

-- ---- steps

-- the step of a frame above those that wait
abbrev pub stepped : Heap → List ℕ → List Frame → Effect → Stepped
stepped heap text waiting (Goes new f printed) = On (record { heap = new; frames = f ∷ waiting; text = text ++ printed })
stepped heap text waiting (Calls f begun) = On (record { heap = heap; frames = begun ∷ f ∷ waiting; text = text })
stepped heap text (f ∷ waiting) (Returns results) = On (record { heap = heap; frames = at f f.next (f.operands ++ results) ∷ waiting; text = text })
stepped heap text [] (Returns results) = Ended (record { results = results; heap = heap; text = text })
stepped heap text waiting Broken = Fault
stepped heap text waiting TooLong = Huge

-- the step from some frames
abbrev pub step_in : Code → Heap → List ℕ → List Frame → Stepped
step_in code heap text [] = Fault
step_in code heap text (f ∷ waiting) = stepped heap text waiting (next_effect code heap f)

-- one step
abbrev pub machine_step : Code → State → Stepped
machine_step code s = step_in code s.heap s.text s.frames
