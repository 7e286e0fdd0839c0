-- Where a step or a run stays within so many words and frames, it stays within more.
use Rattle.std.proofs.Common.{◌≡◌, ◌≤◌, ◌-◌, ℕ, Bool, true, false, nat_lt, nat_le, ◌&&◌, length, Option, Some, None, slice_get, refl, arith}
use Rattle.std.specs.Option.{option_map_or}
use Rattle.std.proofs.lemmas.Bool.{and_parts}
use Rattle.df_nmach.specs.declared.instruction.Instruction.{Instruction}
use Rattle.df_nmach.specs.declared.instruction.Instruction.TheVariants as instructions
use Rattle.df_nmach.specs.State.{Method, Code, Frame, State}
use Rattle.df_nvm.specs.Room.{is_word, needs_no_more, next_needs_no_more, words_in_frames, step_stays, StaysWithin}

more_words : (w m : ℕ) → w ≤ m → nat_lt 0 w ≡ true → nat_lt 0 m ≡ true
more_words w m le e = grind arith

both_more : (b : Bool) (w m : ℕ) → w ≤ m → b && nat_lt 0 w ≡ true → b && nat_lt 0 m ≡ true
both_more true w m le e = more_words w m le e
both_more false w m le e = e

enough_more : (n w m : ℕ) → w ≤ m → nat_le n w ≡ true → nat_le n m ≡ true
enough_more n w m le e = grind arith

call_more : (w m fs gs : ℕ) (o : Option Method) → w ≤ m → fs ≤ gs
    → option_map_or (λ (x : Method). nat_le x.locals w && nat_lt 0 fs) o true ≡ true → option_map_or (λ (x : Method). nat_le x.locals m && nat_lt 0 gs) o true ≡ true
call_more w m fs gs None le more e = refl
call_more w m fs gs (Some x) le more e =
    let both = and_parts (nat_le x.locals w) (nat_lt 0 fs) e in
    rw (enough_more x.locals w m le both.0, more_words fs gs more both.1) refl

instruction_more : (w m fs gs : ℕ) (code : Code) (f : Frame) (i : Instruction) → w ≤ m → fs ≤ gs → needs_no_more w fs code f i ≡ true → needs_no_more m gs code f i ≡ true
instruction_more w m fs gs code f (instructions.Number n) le more e = more_words w m le e
instruction_more w m fs gs code f (instructions.Truth b) le more e = more_words w m le e
instruction_more w m fs gs code f (instructions.Char c) le more e = more_words w m le e
instruction_more w m fs gs code f (instructions.Get i) le more e = both_more (is_word (slice_get f.locals i)) w m le e
instruction_more w m fs gs code f (instructions.Set i) le more e = refl
instruction_more w m fs gs code f instructions.Drop le more e = refl
instruction_more w m fs gs code f (instructions.Unary operator) le more e = refl
instruction_more w m fs gs code f (instructions.Binary operator) le more e = refl
instruction_more w m fs gs code f (instructions.Jump p) le more e = refl
instruction_more w m fs gs code f (instructions.Unless p) le more e = refl
instruction_more w m fs gs code f (instructions.Call n) le more e = call_more w m fs gs (slice_get code.methods n) le more e
instruction_more w m fs gs code f (instructions.Return k) le more e = refl
instruction_more w m fs gs code f (instructions.Sequence n) le more e = e
instruction_more w m fs gs code f (instructions.Print s) le more e = refl

found_more : (w m fs gs : ℕ) (code : Code) (f : Frame) (o : Option Instruction) → w ≤ m → fs ≤ gs → option_map_or (needs_no_more w fs code f) o true ≡ true → option_map_or (needs_no_more m gs code f) o true ≡ true
found_more w m fs gs code f None le more e = refl
found_more w m fs gs code f (Some i) le more e = instruction_more w m fs gs code f i le more e

method_more : (w m fs gs : ℕ) (code : Code) (f : Frame) (o : Option Method) → w ≤ m → fs ≤ gs
    → option_map_or (λ (x : Method). option_map_or (needs_no_more w fs code f) (slice_get x.instructions f.next) true) o true ≡ true
    → option_map_or (λ (x : Method). option_map_or (needs_no_more m gs code f) (slice_get x.instructions f.next) true) o true ≡ true
method_more w m fs gs code f None le more e = refl
method_more w m fs gs code f (Some x) le more e = found_more w m fs gs code f (slice_get x.instructions f.next) le more e

frame_more : (w m fs gs : ℕ) (code : Code) (o : Option Frame) → w ≤ m → fs ≤ gs → option_map_or (next_needs_no_more w fs code) o true ≡ true → option_map_or (next_needs_no_more m gs code) o true ≡ true
frame_more w m fs gs code None le more e = refl
frame_more w m fs gs code (Some f) le more e = method_more w m fs gs code f (slice_get code.methods f.method) le more e

pub step_more : (code : Code) (w m fs gs : ℕ) (s : State) → w ≤ m → fs ≤ gs → step_stays code w fs s ≡ true → step_stays code m gs s ≡ true
step_more code w m fs gs s le more e =
    frame_more (w - words_in_frames s.frames) (m - words_in_frames s.frames) (fs - length s.frames) (gs - length s.frames) code (slice_get s.frames 0) (omega arith) (omega arith) e

pub run_more : (code : Code) (start : State) (fuel w fs m gs : ℕ) → w ≤ m → fs ≤ gs → StaysWithin code start fuel w fs → StaysWithin code start fuel m gs
run_more code start fuel w fs m gs le more stays = record { each = λ k s lt e. step_more code w m fs gs s le more (stays.each k s lt e) }
