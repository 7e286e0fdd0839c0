-- Rows of the table of instructions, as the code goes through them: it pops, tests and pushes.
use Rattle.std.specs.Prelude.{ℕ, ◌+◌, Bool, cond, nat_lt, nat_le, List, [], ◌∷◌, length, slice_get, slice_set}
use Rattle.df_nmach.specs.declared.instruction.UnaryOperator.{UnaryOperator}
use Rattle.df_nmach.specs.declared.instruction.BinaryOperator.{BinaryOperator}
use Rattle.df_nmach.specs.declared.code.Shape.{Shape}
use Rattle.df_nmach.specs.Value.{Value, Truth, text_of}
use Rattle.df_nmach.specs.State.{Heap, Frame}
use Rattle.df_nmach.specs.Step.{Effect, Goes, Broken, given, demand, unary, binary, after, leaves, goes_to, sequence}

-- goes on with the value on top and the others
abbrev pub popped : List Value → (Value → List Value → Effect) → Effect
popped [] go = Broken
popped (v ∷ operands) go = go v operands

abbrev pub get_row : Heap → Frame → ℕ → Effect
get_row heap f i = given (slice_get f.locals i) (λ v. leaves heap f (v ∷ f.operands))

abbrev pub set_row : Heap → Frame → ℕ → Effect
set_row heap f i = popped f.operands (λ v operands. demand (nat_lt i (length f.locals)) (Goes heap (record { method = f.method; next = f.next + 1; locals = slice_set f.locals i v; operands = operands }) []))

abbrev pub drop_row : Heap → Frame → Effect
drop_row heap f = popped f.operands (λ v operands. leaves heap f operands)

abbrev pub unary_row : Heap → Frame → UnaryOperator → Effect
unary_row heap f operator = popped f.operands (λ v operands. given (unary operator v) (λ w. leaves heap f (w ∷ operands)))

abbrev pub binary_row : Heap → Frame → BinaryOperator → Effect
binary_row heap f operator = popped f.operands (λ w others. popped others (λ v operands. given (binary operator v w) (λ x. leaves heap f (x ∷ operands))))

abbrev pub jump_row : Heap → ℕ → Frame → ℕ → Effect
jump_row heap count f p = demand (nat_lt p count) (goes_to heap f p f.operands)

-- goes on with a truth
abbrev pub truth_in : Value → (Bool → Effect) → Effect
truth_in (Truth b) go = go b
truth_in v go = Broken

abbrev pub unless_row : Heap → ℕ → Frame → ℕ → Effect
unless_row heap count f p = popped f.operands (λ v operands. truth_in v (λ b. demand (nat_lt p count) (goes_to heap f (cond b (f.next + 1) p) operands)))

abbrev pub sequence_row : Heap → Frame → ℕ → Effect
sequence_row heap f n = demand (nat_le n (length f.operands)) (sequence heap f n f.operands)

abbrev pub print_row : List Shape → Heap → Frame → ℕ → Effect
print_row shapes heap f s = popped f.operands (λ v operands. given (slice_get shapes s) (λ shape. given (text_of shape v) (λ text. Goes heap (after f operands) text)))
