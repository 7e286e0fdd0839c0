-- What a step of the machine does.
use Rattle.std.specs.Prelude.{ℕ, zero, suc, ◌+◌, ◌^◌, ℤ, pos, negsuc, ◌+ℤ◌, ◌-ℤ◌, ◌*ℤ◌, neg_ℤ, int_lt, int_le, Bool, true, false, not, cond, ◌&&◌, nat_lt, nat_le, List, [], ◌∷◌, ◌++◌, length, take, drop, reverse, Option, Some, None, slice_get, slice_set, replicate, option_map}
use Rattle.std.specs.Int.{int_div_euclid, int_rem_euclid}
use Rattle.df_nmach.specs.declared.instruction.Range.{Range}
use Rattle.df_nmach.specs.declared.instruction.UnaryOperator.{UnaryOperator}
use Rattle.df_nmach.specs.declared.instruction.UnaryOperator.TheVariants.{Negate, Fit, Not, Code, Character}
use Rattle.df_nmach.specs.declared.instruction.BinaryOperator.{BinaryOperator}
use Rattle.df_nmach.specs.declared.instruction.BinaryOperator.TheVariants.{Add, Subtract, Multiply, Divide, Modulo, Less, AtMost, Same}
use Rattle.df_nmach.specs.declared.instruction.Instruction.{Instruction}
use Rattle.df_nmach.specs.declared.instruction.Instruction.TheVariants as instructions
use Rattle.df_nmach.specs.Value.{Value, Number, Truth, Char, Text, same, text_of}
use Rattle.df_nmach.specs.State.{Method, Heap, Frame, State, Final}
use Rattle.df_nmach.specs.State as state

-- What an instruction does: the heap becomes this one, its frame goes on as this one, and the text is
-- printed; or its frame waits as the first one, above which the second one begins; or its frame ends with
-- these results, of which the first is on top; or a demand is broken; or a list is too long.
pub data Effect : Type 0 where
  Goes : Heap → Frame → List ℕ → Effect
  Calls : Frame → Frame → Effect
  Returns : List Value → Effect
  Broken : Effect
  TooLong : Effect

-- A state goes to a state, or it is the end, or a demand is broken, or there is no room in any memory for a
-- list of more than 2^63 - 1 members.
pub data Stepped : Type 0 where
  On : State → Stepped
  Ended : Final → Stepped
  Fault : Stepped
  Huge : Stepped

-- goes on with what there is, and it has to be there
abbrev pub given : {A : Type 0} → Option A → (A → Effect) → Effect
given None go = Broken
given (Some x) go = go x

-- goes on where the test is true, and it has to be
abbrev pub demand : Bool → Effect → Effect
demand true go = go
demand false go = Broken

-- the number, if it lies in the range
abbrev pub within : Range → ℤ → Option Value
within r n = cond (int_le r.low n && int_le n r.high) (Some (Number n)) None

-- the result for a divisor that is not 0
abbrev pub divisor : ℤ → Option Value → Option Value
divisor (pos zero) result = None
divisor (pos (suc n)) result = result
divisor (negsuc n) result = result

-- the character of a number of 0 to 127
abbrev pub character : ℤ → Option Value
character (pos n) = cond (nat_lt n 128) (Some (Char n)) None
character (negsuc n) = None

-- the result of an operand
abbrev pub unary : UnaryOperator → Value → Option Value
unary (Negate r) (Number a) = within r (neg_ℤ a)
unary (Fit r) (Number a) = within r a
unary Not (Truth b) = Some (Truth (not b))
unary Code (Char c) = Some (Number (pos c))
unary Character (Number a) = character a
unary operator v = None

-- The result of a left and a right operand; the quotient and the remainder are Euclidean. Any two values can be
-- compared for equality: two of different kinds are not equal.
abbrev pub binary : BinaryOperator → Value → Value → Option Value
binary (Add r) (Number a) (Number b) = within r (a +ℤ b)
binary (Subtract r) (Number a) (Number b) = within r (a -ℤ b)
binary (Multiply r) (Number a) (Number b) = within r (a *ℤ b)
binary (Divide r) (Number a) (Number b) = divisor b (within r (int_div_euclid a b))
binary (Modulo r) (Number a) (Number b) = divisor b (within r (int_rem_euclid a b))
binary Less (Number a) (Number b) = Some (Truth (int_lt a b))
binary Less (Char a) (Char b) = Some (Truth (nat_lt a b))
binary AtMost (Number a) (Number b) = Some (Truth (int_le a b))
binary AtMost (Char a) (Char b) = Some (Truth (nat_le a b))
binary Same v w = Some (Truth (same v w))
binary operator v w = None

-- the frame at this instruction, with these operands
abbrev pub at : Frame → ℕ → List Value → Frame
at f place operands = record { method = f.method; next = place; locals = f.locals; operands = operands }

-- the frame at its next instruction, with these operands
abbrev pub after : Frame → List Value → Frame
after f operands = at f (f.next + 1) operands

-- the frame goes on to its next instruction, with these operands; the heap stays, and nothing is printed
abbrev pub leaves : Heap → Frame → List Value → Effect
leaves heap f operands = Goes heap (after f operands) []

-- the frame goes on to this instruction, with these operands
abbrev pub goes_to : Heap → Frame → ℕ → List Value → Effect
goes_to heap f place operands = Goes heap (at f place operands) []

-- the frame in which a method begins: locals past the parameters are the number 0
abbrev pub beginning : ℕ → Method → List Value → Frame
beginning number m arguments = record { method = number; next = 0; locals = arguments ++ replicate m.locals (Number (pos 0)); operands = [] }

-- the method begins with its parameters, which are on top and of which the first is deepest; the frame waits
abbrev pub calls : Frame → List Value → ℕ → Method → Effect
calls f operands number m =
    demand (nat_le m.parameters (length operands)) (Calls (after f (drop m.parameters operands)) (beginning number m (reverse (take m.parameters operands))))

-- the characters that values are, where each of them is one
abbrev pub characters : List Value → Option (List ℕ)
characters [] = Some []
characters (Char c ∷ vs) = option_map (λ cs. c ∷ cs) (characters vs)
characters (v ∷ vs) = None

-- The text of so many operands, the first of them deepest. They are characters: there are no other sequences.
abbrev pub sequence : Heap → Frame → ℕ → List Value → Effect
sequence heap f n operands =
    given (characters (reverse (take n operands))) (λ text. cond (nat_lt n (2 ^ 63)) (leaves heap f (Text text ∷ drop n operands)) TooLong)

-- The table of instructions: what each does in a frame, at its operands. What stands in no row is broken.
abbrev pub effect : state.Code → Method → Heap → Frame → Instruction → List Value → Effect
effect code m heap f (instructions.Number n) operands = leaves heap f (Number n ∷ operands)
effect code m heap f (instructions.Truth b) operands = leaves heap f (Truth b ∷ operands)
effect code m heap f (instructions.Char c) operands = leaves heap f (Char c ∷ operands)
effect code m heap f (instructions.Get i) operands = given (slice_get f.locals i) (λ v. leaves heap f (v ∷ operands))
effect code m heap f (instructions.Set i) (v ∷ operands) =
    demand (nat_lt i (length f.locals)) (Goes heap (record { method = f.method; next = f.next + 1; locals = slice_set f.locals i v; operands = operands }) [])
effect code m heap f instructions.Drop (v ∷ operands) = leaves heap f operands
effect code m heap f (instructions.Unary operator) (v ∷ operands) = given (unary operator v) (λ w. leaves heap f (w ∷ operands))
effect code m heap f (instructions.Binary operator) (w ∷ v ∷ operands) = given (binary operator v w) (λ x. leaves heap f (x ∷ operands))
effect code m heap f (instructions.Jump p) operands = demand (nat_lt p (length m.instructions)) (goes_to heap f p operands)
effect code m heap f (instructions.Unless p) (Truth b ∷ operands) = demand (nat_lt p (length m.instructions)) (goes_to heap f (cond b (f.next + 1) p) operands)
effect code m heap f (instructions.Call number) operands = given (slice_get code.methods number) (calls f operands number)
effect code m heap f (instructions.Return k) operands = demand (nat_le k (length operands)) (Returns (take k operands))
effect code m heap f (instructions.Sequence n) operands = demand (nat_le n (length operands)) (sequence heap f n operands)
effect code m heap f (instructions.Print s) (v ∷ operands) =
    given (slice_get code.shapes s) (λ shape. given (text_of shape v) (λ text. Goes heap (after f operands) text))
effect code m heap f instruction operands = Broken

-- what the next instruction of a frame does
abbrev pub next_effect : state.Code → Heap → Frame → Effect
next_effect code heap f =
    given (slice_get code.methods f.method) (λ m. given (slice_get m.instructions f.next) (λ instruction. effect code m heap f instruction f.operands))

-- the step of a frame above those that wait
abbrev pub stepped : Heap → List ℕ → List Frame → Effect → Stepped
stepped heap text waiting (Goes new f printed) = On (record { heap = new; frames = f ∷ waiting; text = text ++ printed })
stepped heap text waiting (Calls f begun) = On (record { heap = heap; frames = begun ∷ f ∷ waiting; text = text })
stepped heap text (f ∷ waiting) (Returns results) = On (record { heap = heap; frames = at f f.next (results ++ f.operands) ∷ waiting; text = text })
stepped heap text [] (Returns results) = Ended (record { results = reverse results; heap = heap; text = text })
stepped heap text waiting Broken = Fault
stepped heap text waiting TooLong = Huge

-- the step from some frames
abbrev pub step_in : state.Code → Heap → List ℕ → List Frame → Stepped
step_in code heap text [] = Fault
step_in code heap text (f ∷ waiting) = stepped heap text waiting (next_effect code heap f)

-- one step
abbrev pub machine_step : state.Code → State → Stepped
machine_step code s = step_in code s.heap s.text s.frames
