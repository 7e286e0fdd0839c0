-- Runs of the machine, joined and with text in front.
use Rattle.std.proofs.Common.{◌≡◌, ℕ, zero, suc, ◌+◌, ◌-◌, ◌≤◌, List, [], ◌∷◌, ◌++◌, refl, ap, ◌∙◌, append_assoc, zero-add, arith}
use Rattle.df_mach2.specs.State.{Code, Heap, Frame, State, Final}
use Rattle.df_mach2.specs.Step.{Effect, Goes, Calls, Returns, Broken, TooLong, Stepped, On, Ended, Fault, Huge, stepped, next_effect, machine_step}
use Rattle.df_mach2.specs.Run.{and_then, machine_run, NeverFaults}
use Rattle.df_mach2.specs.Front.{with_front, all_with_front}

joins : (code : Code) (k m : ℕ) → ((s : State) → machine_run code (k + m) s ≡ and_then (machine_run code k s) (machine_run code m))
    → (o : Stepped) → and_then o (machine_run code (k + m)) ≡ and_then (and_then o (machine_run code k)) (machine_run code m)
joins code k m each (On s) = each s
joins code k m each (Ended f) = refl
joins code k m each Fault = refl
joins code k m each Huge = refl

pub run_add : (code : Code) (k m : ℕ) (s : State) → machine_run code (k + m) s ≡ and_then (machine_run code k s) (machine_run code m)
run_add code zero m s = ap (λ n. machine_run code n s) (zero-add m)
run_add code (suc k) m s =
    let e : suc k + m ≡ suc (k + m) = omega arith in
    ap (λ n. machine_run code n s) e ∙ joins code k m (run_add code k m) (machine_step code s)

pub ends_for_good : (code : Code) (k m : ℕ) (s : State) (final : Final) → machine_run code k s ≡ Ended final → k ≤ m → machine_run code m s ≡ Ended final
ends_for_good code k m s final e le =
    let rest : m ≡ k + (m - k) = omega arith in
    ap (λ n. machine_run code n s) rest ∙ run_add code k (m - k) s ∙ ap (λ o. and_then o (machine_run code (m - k))) e

stepped_front : (t : List ℕ) (heap : Heap) (text : List ℕ) (waiting : List Frame) (effect : Effect)
    → stepped heap (t ++ text) waiting effect ≡ all_with_front t (stepped heap text waiting effect)
stepped_front t heap text waiting (Goes new f printed) =
    let frames : List Frame = f ∷ waiting in
    ap (λ (x : List ℕ). let s : State = record { heap = new; frames = frames; text = x } in On s) (append_assoc t text printed)
stepped_front t heap text waiting (Calls f begun) = refl
stepped_front t heap text [] (Returns results) = refl
stepped_front t heap text (f ∷ waiting) (Returns results) = refl
stepped_front t heap text waiting Broken = refl
stepped_front t heap text waiting TooLong = refl

step_in_front : (code : Code) (t : List ℕ) (heap : Heap) (text : List ℕ) (frames : List Frame)
    → machine_step code (record { heap = heap; frames = frames; text = t ++ text }) ≡ all_with_front t (machine_step code (record { heap = heap; frames = frames; text = text }))
step_in_front code t heap text [] = refl
step_in_front code t heap text (f ∷ waiting) = stepped_front t heap text waiting (next_effect code heap f)

pub step_front : (code : Code) (t : List ℕ) (s : State) → machine_step code (with_front t s) ≡ all_with_front t (machine_step code s)
step_front code t s = step_in_front code t s.heap s.text s.frames

fronts : (code : Code) (k : ℕ) (t : List ℕ) → ((s : State) → machine_run code k (with_front t s) ≡ all_with_front t (machine_run code k s))
    → (o : Stepped) → and_then (all_with_front t o) (machine_run code k) ≡ all_with_front t (and_then o (machine_run code k))
fronts code k t each (On s) = each s
fronts code k t each (Ended f) = refl
fronts code k t each Fault = refl
fronts code k t each Huge = refl

pub run_front : (code : Code) (k : ℕ) (t : List ℕ) (s : State) → machine_run code k (with_front t s) ≡ all_with_front t (machine_run code k s)
run_front code zero t s = refl
run_front code (suc k) t s = ap (λ o. and_then o (machine_run code k)) (step_front code t s) ∙ fronts code k t (run_front code k t) (machine_step code s)

pub next_never : (code : Code) (s next : State) → NeverFaults code (On s) → machine_step code s ≡ On next → NeverFaults code (On next)
next_never code s next never e = record { never = λ k faults. never.never (suc k) (ap (λ o. and_then o (machine_run code k)) e ∙ faults) }
