-- Instructions of a machine, by their rows.
use Rattle.std.proofs.Common.{◌≡◌, ℕ, ℤ, Bool, nat_lt, List, ◌∷◌, length, Option, Result, refl, sym, ap, subst, ◌∙◌}
use Rattle.df_nmach.specs.declared.instruction.Instruction.{Instruction}
use Rattle.df_nmach.specs.declared.instruction.Instruction.TheVariants as instructions
use Rattle.df_nmach.specs.State.{Method, Code, Heap, Frame}
use Rattle.df_nmach.specs.Step.{Effect, leaves, demand, goes_to, effect}
use Rattle.df_nmach.specs.View.{value_of, heap_of}
use Rattle.df_nmach.specs.declared.value.Value.TheVariants.{Number, Truth, Char}
use Rattle.df_nvm.specs.declared.halt.Halt.{Halt}
use Rattle.df_nvm.specs.declared.halt.Turn.{Turn}
use Rattle.df_nvm.specs.declared.machine.Machine.{Machine}
use Rattle.df_nvm.specs.Frames.{running_of, waiting_of, state_of}
use Rattle.df_nvm.specs.mirror.Rows.{jump_row}
use Rattle.df_nvm.specs.Stack.{operands_of}
use Rattle.df_nvm.specs.mirror.Turns.{Works, Enters, Gives, Puts, Turns}
use Rattle.df_nvm.proofs.Landing.{worked, entered, given_back, printed}

-- the effect of an instruction on a machine
abbrev pub does : Code → Method → Machine → Instruction → Effect
does code m old i = effect code m (heap_of old.heap) (running_of old) i (running_of old).operands

pub acted : (r : Result Turn Halt) (old new : Machine) (before : Option (List ℕ)) (row : Effect) (code : Code) (m : Method) (i found : Instruction)
    → row ≡ does code m old i → found ≡ i → new.heap ≡ old.heap → waiting_of new ≡ waiting_of old
    → Works r (heap_of old.heap) (running_of old) (running_of new) row
    → Turns r (state_of old) (state_of new) (operands_of new.stack) before before (does code m old found)
acted r old new before row code m i found is here h w works =
    worked r (heap_of old.heap) (heap_of new.heap) (running_of old) (running_of new) (waiting_of old) (waiting_of new) (operands_of new.stack) before before (does code m old found)
    (ap heap_of h) w refl (subst (λ (e : Effect). Works r (heap_of old.heap) (running_of old) (running_of new) e) (is ∙ ap (does code m old) (sym here)) works)

pub called : (r : Result Turn Halt) (old new : Machine) (before : Option (List ℕ)) (code : Code) (m : Method) (number : ℕ) (found : Instruction)
    → found ≡ instructions.Call number → new.heap ≡ old.heap
    → Enters r (running_of old) (running_of new) (waiting_of old) (waiting_of new) (does code m old (instructions.Call number))
    → Turns r (state_of old) (state_of new) (operands_of new.stack) before before (does code m old found)
called r old new before code m number found here h enters =
    entered r (heap_of old.heap) (heap_of new.heap) (running_of old) (running_of new) (waiting_of old) (waiting_of new) (operands_of new.stack) before before (does code m old found)
    (ap heap_of h) refl (subst (λ (e : Effect). Enters r (running_of old) (running_of new) (waiting_of old) (waiting_of new) e) (ap (does code m old) (sym here)) enters)

pub gave : (r : Result Turn Halt) (old new : Machine) (before : Option (List ℕ)) (code : Code) (m : Method) (count : ℕ) (found : Instruction)
    → found ≡ instructions.Return count → new.heap ≡ old.heap
    → Gives r (running_of old) (running_of new) (waiting_of old) (waiting_of new) count
    → Turns r (state_of old) (state_of new) (operands_of new.stack) before before (does code m old found)
gave r old new before code m count found here h gives =
    subst (λ (i : Instruction). Turns r (state_of old) (state_of new) (operands_of new.stack) before before (does code m old i)) (sym here)
    (given_back r (heap_of old.heap) (heap_of new.heap) (running_of old) (running_of new) (waiting_of old) (waiting_of new) before before count (ap heap_of h) refl gives)

pub put : (r : Result Turn Halt) (old new : Machine) (before now : Option (List ℕ)) (row : Effect) (code : Code) (m : Method) (i found : Instruction)
    → row ≡ does code m old i → found ≡ i → new.heap ≡ old.heap → waiting_of new ≡ waiting_of old
    → Puts r (heap_of old.heap) (running_of old) (running_of new) before now row
    → Turns r (state_of old) (state_of new) (operands_of new.stack) before now (does code m old found)
put r old new before now row code m i found is here h w puts =
    printed r (heap_of old.heap) (heap_of new.heap) (running_of old) (running_of new) (waiting_of old) (waiting_of new) (operands_of new.stack) before now (does code m old found)
    (ap heap_of h) w (subst (λ (e : Effect). Puts r (heap_of old.heap) (running_of old) (running_of new) before now e) (is ∙ ap (does code m old) (sym here)) puts)

pub number_effect : (code : Code) (m : Method) (heap : Heap) (f : Frame) (n : ℤ) → leaves heap f (value_of (Number n) ∷ f.operands) ≡ effect code m heap f (instructions.Number n) f.operands
number_effect code m heap f n = refl

pub truth_effect : (code : Code) (m : Method) (heap : Heap) (f : Frame) (b : Bool) → leaves heap f (value_of (Truth b) ∷ f.operands) ≡ effect code m heap f (instructions.Truth b) f.operands
truth_effect code m heap f b = refl

pub char_effect : (code : Code) (m : Method) (heap : Heap) (f : Frame) (n : ℕ) → leaves heap f (value_of (Char n) ∷ f.operands) ≡ effect code m heap f (instructions.Char n) f.operands
char_effect code m heap f n = refl

pub jump_effect : (code : Code) (m : Method) (heap : Heap) (f : Frame) (p count : ℕ) → count ≡ length m.instructions → jump_row heap count f p ≡ effect code m heap f (instructions.Jump p) f.operands
jump_effect code m heap f p count e = ap (λ n. demand (nat_lt p n) (goes_to heap f p f.operands)) e
