-- An end is final, and the text so far of a run that ends is a front of the whole text.
use Rattle.std.proofs.Common.{◌≡◌, ℕ, ◌+◌, ◌≤◌, List, [], ◌++◌, sym, ap, ◌∙◌, append-nil, arith}
use Rattle.df_nmach.specs.State.{Code, State, Final}
use Rattle.df_nmach.specs.Step.{Stepped, On, Ended, Fault, Huge, machine_step}
use Rattle.df_nmach.specs.Run.{and_then, machine_run, start_of}
use Rattle.df_nmach.specs.Front.{with_front, all_with_front}
use Rattle.df_nmach.proofs.Runs.{run_add, run_front, ends_for_good}
use Rattle.df_ntop.specs.Call.{HasEnded, IsUnended}

later_from : (code : Code) (start : Stepped) (k m : ℕ) (final : Final) → and_then start (machine_run code k) ≡ Ended final → k ≤ m → and_then start (machine_run code m) ≡ Ended final
later_from code (On s) k m final e le = ends_for_good code k m s final e le
later_from code (Ended f) k m final e le = e
later_from code Fault k m final e le = e
later_from code Huge k m final e le = e

-- what ends within so many steps ends within more
pub ends_later : (code : Code) (number fuel more : ℕ) (text : List ℕ) → HasEnded code number fuel text → fuel ≤ more → HasEnded code number more text
ends_later code number fuel more text ended le = record { within = later_from code (start_of code number [] []) fuel more _ ended.within le }

-- and has ended by then
pub ends_or_not : (code : Code) (number fuel : ℕ) (text whole other : List ℕ) → HasEnded code number fuel text → IsUnended code number fuel whole other → ⊥
ends_or_not code number fuel text whole other ended unended =
    let same : Ended (record { results = []; heap = []; text = text }) ≡ On unended.state = sym ended.within ∙ unended.on in
    absurd cc

-- the state, before it had printed anything
abbrev silent : State → State
silent s = record { heap = s.heap; frames = s.frames; text = [] }

with_its_text : (s : State) → with_front s.text (silent s) ≡ s
with_its_text s = ap (λ (x : List ℕ). let t : State = record { heap = s.heap; frames = s.frames; text = x } in t) (append-nil s.text)

abbrev final_or : Final → Stepped → Final
final_or other (On s) = other
final_or other (Ended f) = f
final_or other Fault = other
final_or other Huge = other

ends_after : (o : Stepped) (t : List ℕ) (final : Final) → all_with_front t o ≡ Ended final → (more : List ℕ) × (final.text ≡ t ++ more)
ends_after (On s) t final e = absurd cc
ends_after (Ended f) t final e = (f.text, ap (λ (o : Stepped). (final_or final o).text) (sym e))
ends_after Fault t final e = absurd cc
ends_after Huge t final e = absurd cc

-- what has gone on to a state ends, if it ends, with more text than the state's
pub text_so_far : (code : Code) (start : Stepped) (k n : ℕ) (s : State) (final : Final) → and_then start (machine_run code k) ≡ On s → and_then start (machine_run code n) ≡ Ended final
    → (more : List ℕ) × (final.text ≡ s.text ++ more)
text_so_far code (On b) k n s final on ends =
    let later : machine_run code n s ≡ Ended final =
    ap (λ (o : Stepped). and_then o (machine_run code n)) (sym on) ∙ sym (run_add code k n b) ∙ ends_for_good code n (k + n) b final ends (omega arith) in
    ends_after (machine_run code n (silent s)) s.text final (sym (run_front code n s.text (silent s)) ∙ ap (machine_run code n) (with_its_text s) ∙ later)
text_so_far code (Ended f) k n s final on ends = absurd cc
text_so_far code Fault k n s final on ends = absurd cc
text_so_far code Huge k n s final on ends = absurd cc

-- there is one end
pub one_end : (code : Code) (start : Stepped) (k n : ℕ) (f g : Final) → and_then start (machine_run code k) ≡ Ended f → and_then start (machine_run code n) ≡ Ended g → f ≡ g
one_end code (On b) k n f g one other =
    ap (final_or f) (sym (ends_for_good code k (k + n) b f one (omega arith)) ∙ ends_for_good code n (k + n) b g other (omega arith))
one_end code (Ended h) k n f g one other = ap (final_or f) (sym one ∙ other)
one_end code Fault k n f g one other = absurd cc
one_end code Huge k n f g one other = absurd cc

-- one step more
pub one_more : (code : Code) (k : ℕ) (b s next : State) → machine_run code k b ≡ On s → machine_step code s ≡ On next → machine_run code (k + 1) b ≡ On next
one_more code k b s next on goes = run_add code k 1 b ∙ ap (λ (o : Stepped). and_then o (machine_run code 1)) on ∙ ap (λ (o : Stepped). and_then o (machine_run code 0)) goes
