-- The rows that pop are those of the table.
use Rattle.std.proofs.Common.{◌≡◌, ℕ, List, [], ◌∷◌, length, refl}
use Rattle.df_nmach.specs.declared.instruction.UnaryOperator.{UnaryOperator}
use Rattle.df_nmach.specs.declared.instruction.BinaryOperator.{BinaryOperator}
use Rattle.df_nmach.specs.declared.instruction.Instruction.TheVariants as instructions
use Rattle.df_nmach.specs.Value.{Value, Number, Truth, Char, Null, Reference, Text}
use Rattle.df_nmach.specs.State.{Method, Code, Heap, Frame}
use Rattle.df_nmach.specs.Step.{effect}
use Rattle.df_nvm.specs.mirror.Rows.{set_row, drop_row, unary_row, binary_row, unless_row, print_row}

-- the frame with these operands
abbrev on_top : Frame → List Value → Frame
on_top f operands = record { method = f.method; next = f.next; locals = f.locals; operands = operands }

set_at : (code : Code) (m : Method) (heap : Heap) (f : Frame) (i : ℕ) (operands : List Value) → set_row heap (on_top f operands) i ≡ effect code m heap (on_top f operands) (instructions.Set i) operands
set_at code m heap f i [] = refl
set_at code m heap f i (v ∷ operands) = refl

pub set_effect : (code : Code) (m : Method) (heap : Heap) (f : Frame) (i : ℕ) → set_row heap f i ≡ effect code m heap f (instructions.Set i) f.operands
set_effect code m heap f i = set_at code m heap f i f.operands

drop_at : (code : Code) (m : Method) (heap : Heap) (f : Frame) (operands : List Value) → drop_row heap (on_top f operands) ≡ effect code m heap (on_top f operands) instructions.Drop operands
drop_at code m heap f [] = refl
drop_at code m heap f (v ∷ operands) = refl

pub drop_effect : (code : Code) (m : Method) (heap : Heap) (f : Frame) → drop_row heap f ≡ effect code m heap f instructions.Drop f.operands
drop_effect code m heap f = drop_at code m heap f f.operands

unary_at : (code : Code) (m : Method) (heap : Heap) (f : Frame) (o : UnaryOperator) (operands : List Value) → unary_row heap (on_top f operands) o ≡ effect code m heap (on_top f operands) (instructions.Unary o) operands
unary_at code m heap f o [] = refl
unary_at code m heap f o (v ∷ operands) = refl

pub unary_effect : (code : Code) (m : Method) (heap : Heap) (f : Frame) (o : UnaryOperator) → unary_row heap f o ≡ effect code m heap f (instructions.Unary o) f.operands
unary_effect code m heap f o = unary_at code m heap f o f.operands

binary_at : (code : Code) (m : Method) (heap : Heap) (f : Frame) (o : BinaryOperator) (operands : List Value) → binary_row heap (on_top f operands) o ≡ effect code m heap (on_top f operands) (instructions.Binary o) operands
binary_at code m heap f o [] = refl
binary_at code m heap f o (w ∷ []) = refl
binary_at code m heap f o (w ∷ v ∷ operands) = refl

pub binary_effect : (code : Code) (m : Method) (heap : Heap) (f : Frame) (o : BinaryOperator) → binary_row heap f o ≡ effect code m heap f (instructions.Binary o) f.operands
binary_effect code m heap f o = binary_at code m heap f o f.operands

unless_at : (code : Code) (m : Method) (heap : Heap) (f : Frame) (p count : ℕ) (operands : List Value) → count ≡ length m.instructions
    → unless_row heap count (on_top f operands) p ≡ effect code m heap (on_top f operands) (instructions.Unless p) operands
unless_at code m heap f p count [] e = refl
unless_at code m heap f p count (Number n ∷ operands) e = refl
unless_at code m heap f p count (Truth b ∷ operands) e = rw e refl
unless_at code m heap f p count (Char n ∷ operands) e = refl
unless_at code m heap f p count (Null ∷ operands) e = refl
unless_at code m heap f p count (Reference n ∷ operands) e = refl
unless_at code m heap f p count (Text vs ∷ operands) e = refl

pub unless_effect : (code : Code) (m : Method) (heap : Heap) (f : Frame) (p count : ℕ) → count ≡ length m.instructions → unless_row heap count f p ≡ effect code m heap f (instructions.Unless p) f.operands
unless_effect code m heap f p count e = unless_at code m heap f p count f.operands e

print_at : (code : Code) (m : Method) (heap : Heap) (f : Frame) (s : ℕ) (operands : List Value) → print_row code.shapes heap (on_top f operands) s ≡ effect code m heap (on_top f operands) (instructions.Print s) operands
print_at code m heap f s [] = refl
print_at code m heap f s (v ∷ operands) = refl

pub print_effect : (code : Code) (m : Method) (heap : Heap) (f : Frame) (s : ℕ) → print_row code.shapes heap f s ≡ effect code m heap f (instructions.Print s) f.operands
print_effect code m heap f s = print_at code m heap f s f.operands
