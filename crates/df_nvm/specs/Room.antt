-- When steps and runs take no memory for themselves.
use Rattle.std.specs.Prelude.{◌≡◌, ℕ, ◌+◌, ◌-◌, ◌<◌, Bool, true, false, not, ◌&&◌, nat_lt, nat_le, List, [], ◌∷◌, length, Option, Some, None, slice_get}
use Rattle.std.specs.Option.{option_map_or}
use Rattle.df_nmach.specs.declared.instruction.Instruction.{Instruction}
use Rattle.df_nmach.specs.declared.instruction.Instruction.TheVariants as instructions
use Rattle.df_nmach.specs.Value.{Value, is_text}
use Rattle.df_nmach.specs.State.{Method, Code, Frame, State}
use Rattle.df_nmach.specs.Step.{On}
use Rattle.df_nmach.specs.Run.{machine_run}

-- whether a value, if it is there, is no text, so that to copy it makes no list
abbrev pub is_word : Option Value → Bool
is_word None = true
is_word (Some v) = not (is_text v)

-- Whether an instruction makes and copies no text, and needs no more than so many further words and frames. To
-- print takes no memory.
abbrev pub needs_no_more : ℕ → ℕ → Code → Frame → Instruction → Bool
needs_no_more words frames code f (instructions.Number n) = nat_lt 0 words
needs_no_more words frames code f (instructions.Truth b) = nat_lt 0 words
needs_no_more words frames code f (instructions.Char c) = nat_lt 0 words
needs_no_more words frames code f (instructions.Get i) = is_word (slice_get f.locals i) && nat_lt 0 words
needs_no_more words frames code f (instructions.Set i) = true
needs_no_more words frames code f instructions.Drop = true
needs_no_more words frames code f (instructions.Unary operator) = true
needs_no_more words frames code f (instructions.Binary operator) = true
needs_no_more words frames code f (instructions.Jump p) = true
needs_no_more words frames code f (instructions.Unless p) = true
needs_no_more words frames code f (instructions.Call m) = option_map_or (λ (method : Method). nat_le method.locals words && nat_lt 0 frames) (slice_get code.methods m) true
needs_no_more words frames code f (instructions.Return k) = true
needs_no_more words frames code f (instructions.Sequence n) = false
needs_no_more words frames code f (instructions.Print s) = true

-- the same of the next instruction of a frame, if it is there
abbrev pub next_needs_no_more : ℕ → ℕ → Code → Frame → Bool
next_needs_no_more words frames code f =
    option_map_or (λ (m : Method). option_map_or (needs_no_more words frames code f) (slice_get m.instructions f.next) true) (slice_get code.methods f.method) true

-- the locals and operands of frames
abbrev pub words_in_frames : List Frame → ℕ
words_in_frames [] = 0
words_in_frames (f ∷ frames) = length f.locals + length f.operands + words_in_frames frames

-- whether a step stays within so many words, which are the locals and operands of all frames, and so many frames
abbrev pub step_stays : Code → ℕ → ℕ → State → Bool
step_stays code words frames s = option_map_or (next_needs_no_more (words - words_in_frames s.frames) (frames - length s.frames) code) (slice_get s.frames 0) true

-- the same of each of so many steps from a start
pub record StaysWithin (code : Code) (start : State) (fuel words frames : ℕ) : Type 0 where
  pub each : (k : ℕ) (s : State) → k < fuel → machine_run code k start ≡ On s → step_stays code words frames s ≡ true
