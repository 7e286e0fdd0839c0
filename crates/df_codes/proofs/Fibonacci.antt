-- The recursion of two calls ends.
use Rattle.std.proofs.Common.{◌≡◌, ℕ, zero, suc, ◌+◌, ◌≤◌, pos, Bool, true, false, not, int_lt, List, [], ◌∷◌, Option, refl, ap, ◌∙◌, arith}
use Rattle.std.proofs.lemmas.Int.{ints}
use Rattle.df_nmach.specs.declared.instruction.BinaryOperator.TheVariants.{Subtract}
use Rattle.df_nmach.specs.Value.{Value, Number, Truth, same_truth}
use Rattle.df_nmach.specs.State.{Frame, State, Final}
use Rattle.df_nmach.specs.Step.{On, Ended, given, leaves, at, stepped, binary, machine_step}
use Rattle.df_nmach.specs.Run.{machine_run, start_of, NeverFaults}
use Rattle.df_codes.specs.Ranges.{bits}
use Rattle.df_codes.specs.Programs.{programs}
use Rattle.df_codes.proofs.Running.{Reaches, after_steps, after_step, and_on, Finishes, finishes, and_finishes, finish_never_faults, less_some}

abbrev nothing : Value
nothing = Number (pos 0)

-- the locals are the number, the result, the scratch local and what the first call gave, of which there is another
abbrev frame : ℕ → Value → ℕ → List Value → Frame
frame n a place operands = record { method = 6; next = place; locals = Number (pos n) ∷ nothing ∷ nothing ∷ a ∷ nothing ∷ []; operands = operands }

abbrev over : Frame → List Frame → State
over f waiting = record { heap = []; frames = f ∷ waiting; text = [] }

-- the frame that waited has the answer on top
abbrev answered : Bool → Frame → List Frame → State
answered b f waiting = over (at f f.next (Truth b ∷ f.operands)) waiting

to_test : (n : ℕ) (ws : List Frame) → machine_run programs 3 (over (frame n nothing 0 []) ws) ≡ On (over (frame n nothing 3 (Truth (int_lt (pos n) (pos 2)) ∷ [])) ws)
to_test n ws = refl

past_test : (n : ℕ) (ws : List Frame) → machine_run programs 3 (over (frame n nothing 3 (Truth false ∷ [])) ws) ≡ On (over (frame n nothing 11 (Number (pos 1) ∷ Number (pos n) ∷ [])) ws)
past_test n ws = refl

before : (k m n place : ℕ) (a : Value) (ws : List Frame) → n ≡ k + m → n ≤ 2147483647
    → stepped [] [] ws (given (binary (Subtract bits) (Number (pos n)) (Number (pos k))) (λ x. leaves [] (frame n a place []) (x ∷ []))) ≡ On (over (frame n a (place + 1) (Number (pos m) ∷ [])) ws)
before k m n place a ws e le = ap (λ (o : Option Value). stepped [] [] ws (given o (λ x. leaves [] (frame n a place []) (x ∷ [])))) (less_some k m n e le)

enters_first : (n m : ℕ) (ws : List Frame) → machine_step programs (over (frame n nothing 12 (Number (pos m) ∷ [])) ws) ≡ On (over (frame m nothing 0 []) (frame n nothing 13 [] ∷ ws))
enters_first n m ws = refl

to_second : (n : ℕ) (a : Bool) (ws : List Frame) → machine_run programs 3 (answered a (frame n nothing 13 []) ws) ≡ On (over (frame n (Truth a) 16 (Number (pos 2) ∷ Number (pos n) ∷ [])) ws)
to_second n a ws = refl

enters_second : (n m : ℕ) (a : Value) (ws : List Frame) → machine_step programs (over (frame n a 17 (Number (pos m) ∷ [])) ws) ≡ On (over (frame m nothing 0 []) (frame n a 18 [] ∷ ws))
enters_second n m a ws = refl

hands_on : (n : ℕ) (a c : Bool) (f : Frame) (ws : List Frame) → machine_run programs 8 (answered c (frame n (Truth a) 18 []) (f ∷ ws)) ≡ On (answered (not (same_truth a c)) f ws)
hands_on n a c f ws = refl

not_below : (n : ℕ) → int_lt (pos (suc (suc n))) (pos 2) ≡ false
not_below n = grind (arith, ints)

-- the first call, for the number before
first : (n : ℕ) (ws : List Frame) → suc (suc n) ≤ 2147483647 → Reaches programs (over (frame (suc (suc n)) nothing 0 []) ws) (On (over (frame (suc n) nothing 0 []) (frame (suc (suc n)) nothing 13 [] ∷ ws)))
first n ws le =
    let m = suc (suc n) in
    let test : machine_run programs 3 (over (frame m nothing 0 []) ws) ≡ On (over (frame m nothing 3 (Truth false ∷ [])) ws) =
    to_test m ws ∙ ap (λ (t : Bool). On (over (frame m nothing 3 (Truth t ∷ [])) ws)) (not_below n) in
    and_on programs _ _ _ (after_steps programs 3 _ _ test)
    (and_on programs _ _ _ (after_steps programs 3 _ _ (past_test m ws))
    (and_on programs (over (frame m nothing 11 (Number (pos 1) ∷ Number (pos m) ∷ [])) ws) _ _ (after_step programs _ _ (before 1 (suc n) m 11 nothing ws (omega arith) le)) (after_step programs _ _ (enters_first m (suc n) ws))))

-- the second one, for the number before that
second : (n : ℕ) (a : Bool) (ws : List Frame) → suc (suc n) ≤ 2147483647 → Reaches programs (answered a (frame (suc (suc n)) nothing 13 []) ws) (On (over (frame n nothing 0 []) (frame (suc (suc n)) (Truth a) 18 [] ∷ ws)))
second n a ws le =
    let m = suc (suc n) in
    and_on programs _ _ _ (after_steps programs 3 _ _ (to_second m a ws))
    (and_on programs (over (frame m (Truth a) 16 (Number (pos 2) ∷ Number (pos m) ∷ [])) ws) _ _ (after_step programs _ _ (before 2 n m 16 (Truth a) ws (omega arith) le)) (after_step programs _ _ (enters_second m n (Truth a) ws)))

pub record Answers (n : ℕ) (f : Frame) (ws : List Frame) : Type 0 where
  pub answer : Bool
  pub reaches : Reaches programs (over (frame n nothing 0 []) (f ∷ ws)) (On (answered answer f ws))

-- what both calls answer is put together
returns_by : (n : ℕ) (f : Frame) (ws : List Frame) → suc (suc n) ≤ 2147483647 → (a : Answers (suc n) (frame (suc (suc n)) nothing 13 []) (f ∷ ws)) → Answers n (frame (suc (suc n)) (Truth a.answer) 18 []) (f ∷ ws) → Answers (suc (suc n)) f ws
returns_by n f ws le a c = record {
  answer = not (same_truth a.answer c.answer);
  reaches =
      and_on programs _ _ _ (first n (f ∷ ws) le)
      (and_on programs _ _ _ a.reaches
      (and_on programs _ _ _ (second n a.answer (f ∷ ws) le)
      (and_on programs _ _ _ c.reaches (after_steps programs 8 _ _ (hands_on (suc (suc n)) a.answer c.answer f ws)))));
}

returns : (n : ℕ) (f : Frame) (ws : List Frame) → n ≤ 2147483647 → Answers n f ws
returns zero f ws le = record { answer = false; reaches = after_steps programs 11 _ _ refl }
returns (suc zero) f ws le = record { answer = true; reaches = after_steps programs 11 _ _ refl }
returns (suc (suc n)) f ws le =
    let a = returns (suc n) (frame (suc (suc n)) nothing 13 []) (f ∷ ws) (omega (arith, le)) in
    returns_by n f ws le a (returns n (frame (suc (suc n)) (Truth a.answer) 18 []) (f ∷ ws) (omega (arith, le)))

abbrev told : Bool → Final
told b = record { results = Truth b ∷ []; heap = []; text = [] }

last : (n : ℕ) (a c : Bool) → machine_run programs 8 (answered c (frame n (Truth a) 18 []) []) ≡ Ended (told (not (same_truth a c)))
last n a c = refl

ends_by : (n : ℕ) → suc (suc n) ≤ 2147483647 → (a : Answers (suc n) (frame (suc (suc n)) nothing 13 []) []) → Answers n (frame (suc (suc n)) (Truth a.answer) 18 []) [] → Finishes programs (over (frame (suc (suc n)) nothing 0 []) [])
ends_by n le a c =
    and_finishes programs _ _ (first n [] le)
    (and_finishes programs _ _ a.reaches
    (and_finishes programs _ _ (second n a.answer [] le)
    (and_finishes programs _ _ c.reaches (finishes programs _ (told (not (same_truth a.answer c.answer))) (after_steps programs 8 _ _ (last (suc (suc n)) a.answer c.answer))))))

ends : (n : ℕ) → n ≤ 2147483647 → Finishes programs (over (frame n nothing 0 []) [])
ends zero le = finishes programs _ (told false) (after_steps programs 11 _ _ refl)
ends (suc zero) le = finishes programs _ (told true) (after_steps programs 11 _ _ refl)
ends (suc (suc n)) le =
    let a = returns (suc n) (frame (suc (suc n)) nothing 13 []) [] (omega (arith, le)) in
    ends_by n le a (returns n (frame (suc (suc n)) (Truth a.answer) 18 []) [] (omega (arith, le)))

pub fib_never : (n : ℕ) → n ≤ 2147483647 → NeverFaults programs (start_of programs 6 [] (Number (pos n) ∷ []))
fib_never n le = finish_never_faults programs (over (frame n nothing 0 []) []) (ends n le)
