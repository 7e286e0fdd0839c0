-- Tests of all numbers below another.
use Rattle.std.proofs.Common.{◌≡◌, ℕ, suc, ◌+◌, ◌<◌, Bool, true, false, ◌&&◌, refl, ap, ◌∙◌, arith}
use Rattle.std.proofs.lemmas.Bool.Decides.{Decides-below_and}
use Rattle.df_lemmas.proofs.Truths.{true_is_not_false}
use Rattle.df_table.specs.Testing.{all_below}

-- one more passes
pub below_more : (test : ℕ → Bool) (n : ℕ) → all_below test n ≡ true → test n ≡ true → all_below test (n + 1) ≡ true
below_more test n all one = let e : n + 1 ≡ suc n = omega arith in ap (all_below test) e ∙ (λ i. one i && all i)

passes : (test : ℕ → Bool) (end : ℕ) → all_below test end ≡ true → (k : ℕ) → k < end → test k ≡ true
passes test end all = (Decides-below_and test (λ k. test k ≡ true) (all_below test) (λ k. (λ e. e, λ e. e)) refl (λ k. refl) end).0 all

-- one fails
pub below_fails : (test : ℕ → Bool) (n end : ℕ) → n < end → test n ≡ false → all_below test end ≡ false
below_fails test n end less one = by (all_below test end) refl
  where
    by : (b : Bool) → all_below test end ≡ b → all_below test end ≡ false
    by false e = e
    by true e = absurd (true_is_not_false (test n) (passes test end e n less) one)
