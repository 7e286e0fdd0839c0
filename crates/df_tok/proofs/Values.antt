-- The value of digits, one after another.
use Rattle.std.proofs.Common.{◌≡◌, ℕ, ◌+◌, ◌*◌, ◌≤◌, Bool, true, false, cond, eqb, List, [], ◌∷◌, arith, inl, inr}
use Rattle.std.specs.Prelude.{◌≢◌, fold, ◌==◌, if◌then◌else◌}
use Rattle.std.proofs.lemmas.Nat.{mul-le}
use Rattle.std.proofs.lemmas.Bool.Decides.{eqb_tells}
use Rattle.df_tok.specs.Byte.{digit_value}

-- the value of digits after a number
abbrev pub value_from : ℕ → ℕ → List ℕ → ℕ
value_from base value digits = fold (λ v d. if d == 95 then v else v * base + digit_value d) value digits

step_grows : (base v d : ℕ) (b : Bool) → 1 ≤ base → v ≤ cond b v (v * base + digit_value d)
step_grows base v d true h = omega arith
step_grows base v d false h = omega (arith, mul-le v 1 v base (omega arith) h)

-- more digits give no less
pub value_grows : (base v : ℕ) (digits : List ℕ) → 1 ≤ base → v ≤ value_from base v digits
value_grows base v [] h = omega arith
value_grows base v (d ∷ ds) h = omega (arith, step_grows base v d (eqb d 95) h, value_grows base (cond (eqb d 95) v (v * base + digit_value d)) ds h)

-- past a limit it stays, whatever digits follow
pub value_past : (base v limit b : ℕ) (digits : List ℕ) → 1 ≤ base → b ≢ 95 → limit ≤ v * base + digit_value b → limit ≤ value_from base v (b ∷ digits)
value_past base v limit b digits h apart le =
    let e : eqb b 95 ≡ false = elim (eqb_tells b 95) [ inl p ↦ absurd (apart p.1) | inr p ↦ p.0 ] in
    let g = value_grows base (v * base + digit_value b) digits h in
    rw e (omega arith)
