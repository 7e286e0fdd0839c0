-- The counting loop ends.
use Rattle.std.proofs.Common.{◌≡◌, ℕ, zero, suc, ◌+◌, ◌≤◌, pos, Bool, true, false, int_lt, nat_lt, List, [], ◌∷◌, Option, refl, ap, ◌∙◌, arith}
use Rattle.std.proofs.lemmas.Bool.{lt-ltb}
use Rattle.std.proofs.lemmas.Bool.Decides.{nat_tests}
use Rattle.df_nmach.specs.Value.{Value, Number, Truth}
use Rattle.df_nmach.specs.State.{Frame, State, Final}
use Rattle.df_nmach.specs.Step.{On, Ended, given, leaves, stepped, machine_step}
use Rattle.df_nmach.specs.Run.{machine_run, start_of, NeverFaults}
use Rattle.df_codes.specs.Programs.{programs}
use Rattle.df_codes.proofs.Running.{after_steps, after_step, Finishes, finishes, and_finishes, finish_never_faults, one_more}

abbrev frame : ℕ → ℕ → ℕ → List Value → Frame
frame n i place operands = record { method = 5; next = place; locals = Number (pos n) ∷ Number (pos i) ∷ Number (pos 0) ∷ []; operands = operands }

abbrev counting : ℕ → ℕ → ℕ → List Value → State
counting n i place operands = record { heap = []; frames = frame n i place operands ∷ []; text = [] }

to_guard : (n i : ℕ) → machine_run programs 3 (counting n i 2 []) ≡ On (counting n i 5 (Truth (int_lt (pos i) (pos n)) ∷ []))
to_guard n i = refl

past_guard : (n i : ℕ) → machine_run programs 3 (counting n i 5 (Truth true ∷ [])) ≡ On (counting n i 8 (Number (pos 1) ∷ Number (pos i) ∷ []))
past_guard n i = refl

adds : (n i : ℕ) → i + 1 ≤ 2147483647 → machine_step programs (counting n i 8 (Number (pos 1) ∷ Number (pos i) ∷ [])) ≡ On (counting n i 9 (Number (pos (i + 1)) ∷ []))
adds n i le = ap (λ (o : Option Value). stepped [] [] [] (given o (λ x. leaves [] (frame n i 8 []) (x ∷ [])))) (one_more i le)

again : (n i j : ℕ) → machine_run programs 2 (counting n i 9 (Number (pos j) ∷ [])) ≡ On (counting n j 2 [])
again n i j = refl

abbrev counted : ℕ → Final
counted i = record { results = Number (pos i) ∷ []; heap = []; text = [] }

out : (n i : ℕ) → machine_run programs 3 (counting n i 5 (Truth false ∷ [])) ≡ Ended (counted i)
out n i = refl

guarded : (n i : ℕ) (b : Bool) → nat_lt i n ≡ b → machine_run programs 3 (counting n i 2 []) ≡ On (counting n i 5 (Truth b ∷ []))
guarded n i b e = to_guard n i ∙ ap (λ (t : Bool). On (counting n i 5 (Truth t ∷ []))) e

turns : (rest i n : ℕ) → i + rest ≡ n → n ≤ 2147483647 → Finishes programs (counting n i 2 [])
turns zero i n e le =
    let over : nat_lt i n ≡ false = grind (arith, nat_tests) in
    and_finishes programs _ _ (after_steps programs 3 _ _ (guarded n i false over)) (finishes programs _ (counted i) (after_steps programs 3 _ _ (out n i)))
turns (suc rest) i n e le =
    let more : nat_lt i n ≡ true = lt-ltb i n (omega (arith, e)) in
    let fits : i + 1 ≤ 2147483647 = omega (arith, e, le) in
    let left : i + 1 + rest ≡ n = omega (arith, e) in
    and_finishes programs _ _ (after_steps programs 3 _ _ (guarded n i true more))
    (and_finishes programs _ _ (after_steps programs 3 _ _ (past_guard n i))
    (and_finishes programs _ _ (after_step programs _ _ (adds n i fits))
    (and_finishes programs _ _ (after_steps programs 2 _ _ (again n i (i + 1))) (turns rest (i + 1) n left le))))

begins : (n : ℕ) → machine_run programs 2 (counting n 0 0 []) ≡ On (counting n 0 2 [])
begins n = refl

pub count_never : (n : ℕ) → n ≤ 2147483647 → NeverFaults programs (start_of programs 5 [] (Number (pos n) ∷ []))
count_never n le =
    finish_never_faults programs (counting n 0 0 []) (and_finishes programs _ _ (after_steps programs 2 _ _ (begins n)) (turns n 0 n (omega arith) le))
