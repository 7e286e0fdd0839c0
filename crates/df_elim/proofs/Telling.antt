-- What rows say, and what they say divided.
use Rattle.std.proofs.Common.{◌≡◌, inl, inr, ℕ, zero, suc, ◌+◌, ◌*◌, ◌/◌, ◌%◌, ◌<◌, ◌≤◌, ℤ, pos, negsuc, ◌+ℤ◌, ◌*ℤ◌, ◌≤ℤ◌, int_le, Bool, true, false, ◌&&◌, List, [], ◌∷◌, refl, sym, ap, subst, ◌∙◌, arith}
use Rattle.std.proofs.Math.Nat.{div-add-mod', dvd-mod_iff}
use Rattle.std.proofs.lemmas.Nat.Gcd.{dvd-zero, dvd_of_mod-eq-zero}
use Rattle.std.proofs.lemmas.Int.{ints}
use Rattle.std.proofs.lemmas.Bool.{true≢false, and_parts}
use Rattle.std.proofs.lemmas.Bool.Decides.{Decides-int_eq}
use Rattle.std.specs.Int.{◌∣◌}
use Rattle.std.specs.Int.RustNames.{unsigned_abs}
use Rattle.std.specs.Ordering.{int_eq}
use Rattle.df_lemmas.proofs.Integers.{times_twice, to_le, from_le, sum_times}
use Rattle.df_row.specs.Row.{Row}
use Rattle.df_row.specs.Linear.{all_below, quotient}
use Rattle.df_row.specs.Value.{sum_below, row_value, row_holds, rows_hold}
use Rattle.df_level.specs.Division.{IsContent, divisor_of, quotient_row}
use Rattle.df_level.specs.Levels.{Stands, IsFirstLevel}
use Rattle.df_level.proofs.Contents.{divisor_divides, some_divisor}
use Rattle.df_level.proofs.Lines.{all_divided}

-- Numbers without a greatest common divisor refute themselves: each remainder would be a lesser one.
module _ (f : ℕ → ℤ) (none : (d : ℕ) → IsContent f d → ⊥) where
  abbrev IsGreatest : ℕ → Type 0
  IsGreatest d = (e : ℕ) → ((n : ℕ) → e ∣ unsigned_abs (f n)) → e ∣ d

  abbrev NoneBelow : ℕ → Type 0
  NoneBelow bound = (d : ℕ) → d < bound → 0 < d → IsGreatest d → ⊥

  remainder_none : (bound d n r : ℕ) → NoneBelow bound → d < suc bound → 0 < d → IsGreatest d → unsigned_abs (f n) % d ≡ r → d ∣ unsigned_abs (f n)
  remainder_none bound d n zero again less some greatest e = dvd_of_mod-eq-zero d e
  remainder_none bound d n (suc r) again less some greatest e = absurd (again (unsigned_abs (f n) % d) (omega arith) (omega arith) (λ x all. (dvd-mod_iff x (greatest x all)).1 (all n)))

  none_greatest : (bound : ℕ) → NoneBelow bound
  none_greatest zero d less some greatest = absurd (omega arith)
  none_greatest (suc bound) d less some greatest = none d (record { each = λ n. remainder_none bound d n (unsigned_abs (f n) % d) (none_greatest bound) less some greatest refl; greatest = greatest })

  all_zero : (n k : ℕ) → unsigned_abs (f n) ≡ k → unsigned_abs (f n) ≡ 0
  all_zero n zero e = e
  all_zero n (suc k) e = absurd (none_greatest (suc (unsigned_abs (f n))) (unsigned_abs (f n)) (omega arith) (omega arith) (λ x all. all n))

  pub no_content : ⊥
  no_content = none 0 (record { each = λ n. let P : ℕ → Type 0 = λ k. 0 ∣ k in subst P (sym (all_zero n (unsigned_abs (f n)) refl)) (dvd-zero 0); greatest = λ e all. dvd-zero e })

-- quotients
exact : (d : ℕ) (row : Row) → 0 < d → ((n : ℕ) → d ∣ unsigned_abs (row.coefficient n)) → (n : ℕ) → pos d *ℤ quotient (row.coefficient n) (pos d) ≡ row.coefficient n
exact d row some h n =
    let test : ℕ → Bool = λ i. int_eq (pos d *ℤ quotient (row.coefficient i) (pos d)) (row.coefficient i) in
    let parts = and_parts (int_le (pos 1) (pos d)) (all_below (suc n) test) (all_divided (suc n) d row some h) in
    (Decides-int_eq (pos d *ℤ quotient (row.coefficient n) (pos d)) (row.coefficient n)).0 (and_parts (test n) (all_below n test) parts.1).0

times_at_most : (d k n : ℕ) → k * d ≤ n → (pos d *ℤ pos k) ≤ℤ pos n
times_at_most d k n h = omega (arith, ints)

times_below : (d k n : ℕ) → suc n ≤ k * d + d → (pos d *ℤ negsuc k) ≤ℤ negsuc n
times_below d k n h = omega (arith, ints)

at_most : (d : ℕ) (z : ℤ) → 0 < d → (pos d *ℤ quotient z (pos d)) ≤ℤ z
at_most d (pos n) some = let all = div-add-mod' n d in times_at_most d (n / d) n (omega arith)
at_most d (negsuc n) some = let all = div-add-mod' n d in times_below d (n / d) n (omega arith)

-- the value of a row divided
each_times : (d q x a : ℤ) → d *ℤ q ≡ a → a *ℤ x ≡ d *ℤ (q *ℤ x)
each_times d q x a e = ap (λ z. z *ℤ x) (sym e) ∙ times_twice d q x

none_times : (d : ℤ) → pos 0 ≡ d *ℤ pos 0
none_times d = omega (arith, ints)

scaled_sums : (count : ℕ) (d : ℤ) (f g : ℕ → ℤ) → ((n : ℕ) → f n ≡ d *ℤ g n) → sum_below count f ≡ d *ℤ sum_below count g
scaled_sums zero d f g h = none_times d
scaled_sums (suc n) d f g h = ap (λ z. z +ℤ sum_below n f) (h n) ∙ ap (λ z. (d *ℤ g n) +ℤ z) (scaled_sums n d f g h) ∙ sym (sum_times d (g n) (sum_below n g))

times_some : (d : ℕ) (z : ℤ) → pos 0 ≤ℤ z → pos 0 ≤ℤ (pos d *ℤ z)
times_some d (pos n) h = omega (arith, ints)
times_some d (negsuc n) h = absurd (omega (arith, ints))

at_least : (d : ℕ) (s t c q : ℤ) → s ≡ pos d *ℤ t → (pos d *ℤ q) ≤ℤ c → pos 0 ≤ℤ (t +ℤ q) → pos 0 ≤ℤ (s +ℤ c)
at_least d s t c q e h some =
    add_up s (pos d *ℤ t) (pos d *ℤ q) c (pos d *ℤ (t +ℤ q)) e (sum_times (pos d) t q) h (times_some d (t +ℤ q) some)
  where
    add_up : (s a b c all : ℤ) → s ≡ a → all ≡ a +ℤ b → b ≤ℤ c → pos 0 ≤ℤ all → pos 0 ≤ℤ (s +ℤ c)
    add_up s a b c all e f h some = omega (arith, ints)

module _ (count : ℕ) (numbers : ℕ → ℤ) where
  holds_from_quotient : (row : Row) (d : ℕ) → 0 < d → ((n : ℕ) → d ∣ unsigned_abs (row.coefficient n)) → row_holds count numbers (quotient_row d row) ≡ true → row_holds count numbers row ≡ true
  holds_from_quotient row d some h holds =
      let sums = scaled_sums count (pos d) (λ n. row.coefficient n *ℤ numbers n) (λ n. quotient (row.coefficient n) (pos d) *ℤ numbers n) (λ n. each_times (pos d) (quotient (row.coefficient n) (pos d)) (numbers n) (row.coefficient n) (exact d row some h n)) in
      from_le (row_value count numbers row) (at_least d (sum_below count (λ n. row.coefficient n *ℤ numbers n)) (sum_below count (λ n. quotient (row.coefficient n) (pos d) *ℤ numbers n)) row.constant (quotient row.constant (pos d)) sums (at_most d row.constant some) (to_le (row_value count numbers (quotient_row d row)) holds))

  holds_from_content : (row : Row) (content : ℕ) → IsContent row.coefficient content → row_holds count numbers (quotient_row (divisor_of content) row) ≡ true → row_holds count numbers row ≡ true
  holds_from_content row content h = holds_from_quotient row (divisor_of content) (some_divisor content) (λ n. divisor_divides content (unsigned_abs (row.coefficient n)) (h.each n))

  module _ (rows first : List Row) (is : IsFirstLevel rows first) (hold : (r : Row) → Stands r first → row_holds count numbers r ≡ true) where
    holds_there : (row : Row) → Stands row rows → (content : ℕ) → IsContent row.coefficient content → row_holds count numbers row ≡ true
    holds_there row there content h =
        let after = quotient_row (divisor_of content) row in
        holds_from_content row content h (hold after (is.all after row there (record { content = content; is_content = h; is = refl })))

    pub first_tells : (row : Row) → Stands row rows → row_holds count numbers row ≡ true
    first_tells row there = by (row_holds count numbers row) refl
      where
        by : (b : Bool) → row_holds count numbers row ≡ b → row_holds count numbers row ≡ true
        by true e = e
        by false e = absurd (no_content row.coefficient (λ content h. true≢false (sym (holds_there row there content h) ∙ e)))

  -- of lists
  each_holds : (rows : List Row) → rows_hold count numbers rows ≡ true → (r : Row) → Stands r rows → row_holds count numbers r ≡ true
  each_holds [] e r there = absurd there
  each_holds (row ∷ rows) e r (inl is) = ap (row_holds count numbers) is ∙ (and_parts (row_holds count numbers row) (rows_hold count numbers rows) e).0
  each_holds (row ∷ rows) e r (inr there) = each_holds rows (and_parts (row_holds count numbers row) (rows_hold count numbers rows) e).1 r there

  all_hold : (rows : List Row) → ((r : Row) → Stands r rows → row_holds count numbers r ≡ true) → rows_hold count numbers rows ≡ true
  all_hold [] h = refl
  all_hold (row ∷ rows) h = ap (λ b. b && rows_hold count numbers rows) (h row (inl refl)) ∙ all_hold rows (λ r there. h r (inr there))

  pub lists_tell : (rows first : List Row) → IsFirstLevel rows first → rows_hold count numbers first ≡ true → rows_hold count numbers rows ≡ true
  lists_tell rows first is hold = all_hold rows (first_tells rows first is (each_holds first hold))
