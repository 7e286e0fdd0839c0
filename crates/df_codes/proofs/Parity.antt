-- Even and Odd return, however deep they call each other.
use Rattle.std.proofs.Common.{◌≡◌, ℕ, zero, suc, ◌≤◌, pos, Bool, true, false, not, List, [], ◌∷◌, Option, refl, ap, ◌∙◌, arith}
use Rattle.std.specs.Ordering.{int_eq}
use Rattle.std.proofs.lemmas.Int.{ints}
use Rattle.df_nmach.specs.Value.{Value, Number, Truth}
use Rattle.df_nmach.specs.State.{Frame, State}
use Rattle.df_nmach.specs.Step.{On, given, leaves, at, stepped, machine_step}
use Rattle.df_nmach.specs.Run.{machine_run, start_of, NeverFaults}
use Rattle.df_codes.specs.Programs.{programs}
use Rattle.df_codes.proofs.Running.{Reaches, after_steps, after_step, and_on, Finishes, finishes, and_finishes, finish_never_faults, less_some}

abbrev number : Bool → ℕ
number true = 0
number false = 1

-- the frame of Even, or of Odd
abbrev frame : Bool → ℕ → ℕ → List Value → Frame
frame b n place operands = record { method = number b; next = place; locals = Number (pos n) ∷ Number (pos 0) ∷ Number (pos 0) ∷ []; operands = operands }

abbrev over : Frame → List Frame → State
over f waiting = record { heap = []; frames = f ∷ waiting; text = [] }

-- the frame that waited has the answer on top
abbrev answered : Bool → Frame → List Frame → State
answered b f waiting = over (at f f.next (Truth b ∷ f.operands)) waiting

abbrev answer : Bool → ℕ → Bool
answer b zero = b
answer b (suc n) = answer (not b) n

to_test : (b : Bool) (n : ℕ) (ws : List Frame) → machine_run programs 3 (over (frame b n 0 []) ws) ≡ On (over (frame b n 3 (Truth (int_eq (pos n) (pos 0)) ∷ [])) ws)
to_test true n ws = refl
to_test false n ws = refl

past_test : (b : Bool) (n : ℕ) (ws : List Frame) → machine_run programs 3 (over (frame b n 3 (Truth false ∷ [])) ws) ≡ On (over (frame b n 9 (Number (pos 1) ∷ Number (pos n) ∷ [])) ws)
past_test true n ws = refl
past_test false n ws = refl

before : (b : Bool) (n : ℕ) (ws : List Frame) → suc n ≤ 2147483647
    → machine_step programs (over (frame b (suc n) 9 (Number (pos 1) ∷ Number (pos (suc n)) ∷ [])) ws) ≡ On (over (frame b (suc n) 10 (Number (pos n) ∷ [])) ws)
before true n ws le = ap (λ (o : Option Value). stepped [] [] ws (given o (λ x. leaves [] (frame true (suc n) 9 []) (x ∷ [])))) (less_some 1 n (suc n) (omega arith) le)
before false n ws le = ap (λ (o : Option Value). stepped [] [] ws (given o (λ x. leaves [] (frame false (suc n) 9 []) (x ∷ [])))) (less_some 1 n (suc n) (omega arith) le)

enters : (b : Bool) (n : ℕ) (ws : List Frame) → machine_step programs (over (frame b (suc n) 10 (Number (pos n) ∷ [])) ws) ≡ On (over (frame (not b) n 0 []) (frame b (suc n) 11 [] ∷ ws))
enters true n ws = refl
enters false n ws = refl

hands_on : (b a : Bool) (n : ℕ) (f : Frame) (ws : List Frame) → machine_run programs 3 (answered a (frame b n 11 []) (f ∷ ws)) ≡ On (answered a f ws)
hands_on true a n f ws = refl
hands_on false a n f ws = refl

not_zero : (n : ℕ) → int_eq (pos (suc n)) (pos 0) ≡ false
not_zero n = grind (arith, ints)

-- a number that is not 0 leads to a call for the number before
descends : (b : Bool) (n : ℕ) (ws : List Frame) → suc n ≤ 2147483647 → Reaches programs (over (frame b (suc n) 0 []) ws) (On (over (frame (not b) n 0 []) (frame b (suc n) 11 [] ∷ ws)))
descends b n ws le =
    let test : machine_run programs 3 (over (frame b (suc n) 0 []) ws) ≡ On (over (frame b (suc n) 3 (Truth false ∷ [])) ws) =
    to_test b (suc n) ws ∙ ap (λ (t : Bool). On (over (frame b (suc n) 3 (Truth t ∷ [])) ws)) (not_zero n) in
    and_on programs _ _ _ (after_steps programs 3 _ _ test)
    (and_on programs _ _ _ (after_steps programs 3 _ _ (past_test b (suc n) ws))
    (and_on programs _ _ _ (after_step programs _ _ (before b n ws le)) (after_step programs _ _ (enters b n ws))))

returns : (n : ℕ) (b : Bool) (f : Frame) (ws : List Frame) → n ≤ 2147483647 → Reaches programs (over (frame b n 0 []) (f ∷ ws)) (On (answered (answer b n) f ws))
returns zero true f ws le = after_steps programs 9 _ _ refl
returns zero false f ws le = after_steps programs 9 _ _ refl
returns (suc n) b f ws le =
    let fits : n ≤ 2147483647 = omega (arith, le) in
    and_on programs _ _ _ (descends b n (f ∷ ws) le)
    (and_on programs _ _ _ (returns n (not b) (frame b (suc n) 11 []) (f ∷ ws) fits) (after_steps programs 3 _ _ (hands_on b (answer (not b) n) (suc n) f ws)))

ends : (n : ℕ) → n ≤ 2147483647 → Finishes programs (over (frame true n 0 []) [])
ends zero le = finishes programs _ (record { results = Truth true ∷ []; heap = []; text = [] }) (after_steps programs 9 _ _ refl)
ends (suc n) le =
    let fits : n ≤ 2147483647 = omega (arith, le) in
    let a = answer false n in
    and_finishes programs _ _ (descends true n [] le)
    (and_finishes programs _ _ (returns n false (frame true (suc n) 11 []) [] fits)
    (finishes programs (answered a (frame true (suc n) 11 []) []) (record { results = Truth a ∷ []; heap = []; text = [] }) (after_steps programs 3 _ _ refl)))

pub even_never : (n : ℕ) → n ≤ 2147483647 → NeverFaults programs (start_of programs 0 [] (Number (pos n) ∷ []))
even_never n le = finish_never_faults programs (over (frame true n 0 []) []) (ends n le)
