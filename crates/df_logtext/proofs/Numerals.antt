-- Canonical decimals are read as the numbers that they are written of.
use Rattle.std.proofs.Common.{◌≡◌, ℕ, ◌+◌, ◌-◌, ◌*◌, ◌/◌, ◌%◌, ◌^◌, ◌<◌, ◌≤◌, true, List, [], ◌∷◌, ◌++◌, Some, sym, ap, ◌∙◌, append_assoc, inl, inr, arith}
use Rattle.std.specs.Prelude.{◌≢◌, ◌&&◌, nat_lt, nat_le, nat_eq}
use Rattle.std.specs.Fmt.{decimal}
use Rattle.std.proofs.lemmas.Fmt.{decimal_step_wide, decimal_digit}
use Rattle.std.proofs.lemmas.List.{append-nil}
use Rattle.std.proofs.lemmas.Bool.{and_parts, ltb-true, leb-true, eqb-true}
use Rattle.std.proofs.lemmas.Option.{same_Some}
use Rattle.df_lemmas.proofs.Options.{test_some}
use Rattle.df_lemmas.proofs.Truths.{choice}
use Rattle.df_logtext.specs.Numeral.{is_digit, digits_after, zero_of, number_of}

-- a digit more
digit_more : (v d : ℕ) → 1 ≤ v → d ≤ 9 → v * 10 + d < 10 ^ 64 → decimal (v * 10 + d) ≡ decimal v ++ (48 + d) ∷ []
digit_more v d low high small =
    let q : (v * 10 + d) / 10 ≡ v = omega arith in
    let r : (v * 10 + d) % 10 ≡ d = omega arith in
    decimal_step_wide (v * 10 + d) (omega arith) small ∙ ap (λ a. decimal a ++ (48 + (v * 10 + d) % 10) ∷ []) q ∙ ap (λ a. decimal v ++ (48 + a) ∷ []) r

record Digit (limit v b : ℕ) : Type 0 where
  low : 48 ≤ b
  high : b ≤ 57
  below : v * 10 + (b - 48) < limit

digit_read : (limit v b : ℕ) → (is_digit b && nat_lt (v * 10 + (b - 48)) limit) ≡ true → Digit limit v b
digit_read limit v b e =
    let parts = and_parts (is_digit b) (nat_lt (v * 10 + (b - 48)) limit) e in
    let digit = and_parts (nat_le 48 b) (nat_le b 57) parts.0 in
    record { low = leb-true 48 b digit.0; high = leb-true b 57 digit.1; below = ltb-true (v * 10 + (b - 48)) limit parts.1 }

after_read : (limit v : ℕ) (ds : List ℕ) (n : ℕ) → limit ≤ 10 ^ 64 → 1 ≤ v → v < limit → digits_after limit v ds ≡ Some n → (decimal n ≡ decimal v ++ ds) × (n < limit)
after_read limit v [] n wide low below e =
    let s : v ≡ n = same_Some v n e in
    (ap decimal (sym s) ∙ sym (append-nil (decimal v)), omega arith)
after_read limit v (b ∷ bs) n wide low below e =
    let t = test_some (is_digit b && nat_lt (v * 10 + (b - 48)) limit) (digits_after limit (v * 10 + (b - 48)) bs) n e in
    let digit = digit_read limit v b t.0 in
    let lt : v * 10 + (b - 48) < limit = digit.below in
    let l : 48 ≤ b = digit.low in
    let h : b ≤ 57 = digit.high in
    let others = after_read limit (v * 10 + (b - 48)) bs n wide (omega arith) lt t.1 in
    let grown = digit_more v (b - 48) low (omega arith) (omega arith) in
    let back : 48 + (b - 48) ≡ b = omega arith in
    (others.0 ∙ ap (λ x. x ++ bs) (grown ∙ ap (λ x. decimal v ++ x ∷ []) back) ∙ append_assoc (decimal v) (b ∷ []) bs, others.1)

zero_read : (bs : List ℕ) (n : ℕ) → zero_of bs ≡ Some n → (48 ∷ bs ≡ decimal n) × (n ≡ 0)
zero_read [] n e =
    let s : 0 ≡ n = same_Some 0 n e in
    (sym (decimal_digit 0 (omega arith)) ∙ ap decimal s, sym s)
zero_read (b ∷ bs) n e = absurd cc

-- what is read is the number's text
pub number_read : (limit : ℕ) (word : List ℕ) (n : ℕ) → 1 ≤ limit → limit ≤ 10 ^ 64 → number_of limit word ≡ Some n → (word ≡ decimal n) × (n < limit)
unfolding number_of
number_read limit [] n low wide e = absurd cc
number_read limit (b ∷ bs) n low wide e =
    elim (choice (nat_eq b 48) (zero_of bs) (digits_after limit 0 (b ∷ bs)) (Some n) e) [
      | inl p ↦ let z = zero_read bs n p.1 in let is : b ≡ 48 = eqb-true b 48 p.0 in (ap (λ x. x ∷ bs) is ∙ z.0, omega (arith, z.1))
      | inr p ↦
          let t = test_some (is_digit b && nat_lt (0 * 10 + (b - 48)) limit) (digits_after limit (0 * 10 + (b - 48)) bs) n p.1 in
          let digit = digit_read limit 0 b t.0 in
          let l : 48 ≤ b = digit.low in
          let h : b ≤ 57 = digit.high in
          let lt : 0 * 10 + (b - 48) < limit = digit.below in
          let apart : b ≢ 48 = grind (arith, p.0) in
          let value : 0 * 10 + (b - 48) ≡ b - 48 = omega arith in
          let others = after_read limit (0 * 10 + (b - 48)) bs n wide (omega arith) lt t.1 in
          let back : 48 + (b - 48) ≡ b = omega arith in
          let first : decimal (0 * 10 + (b - 48)) ≡ b ∷ [] = ap decimal value ∙ decimal_digit (b - 48) (omega arith) ∙ ap (λ x. x ∷ []) back in
          (sym (others.0 ∙ ap (λ x. x ++ bs) first), others.1)
    ]
