-- Where rows hold, the rows of their levels do, and no false row does.
use Rattle.std.proofs.Common.{◌≡◌, inl, inr, ℕ, zero, suc, ◌+◌, ◌*◌, ◌/◌, ◌<◌, ◌≤◌, ℤ, pos, negsuc, ◌+ℤ◌, ◌*ℤ◌, ◌<ℤ◌, ◌≤ℤ◌, int_le, Bool, true, List, [], ◌∷◌, refl, sym, ap, subst, ◌∙◌, arith}
use Rattle.std.specs.Int.{◌∣◌}
use Rattle.std.specs.Int.RustNames.{unsigned_abs}
use Rattle.std.specs.Ordering.{int_eq}
use Rattle.std.proofs.lemmas.Int.{ints}
use Rattle.std.proofs.lemmas.Bool.{and_parts}
use Rattle.std.proofs.lemmas.Bool.Decides.{Decides-int_eq}
use Rattle.std.proofs.Math.IntN.{*ℤ-zero, zero-*ℤ}
use Rattle.df_lemmas.proofs.Integers.{times_over_sum, sum_times, times_twice, to_le}
use Rattle.df_row.proofs.Sums.{no_sum, sum_scaled}
use Rattle.df_row.specs.Row.{Row, all_below}
use Rattle.df_row.specs.Linear.{quotient}
use Rattle.df_row.specs.Value.{sum_below, row_value, row_holds, rows_hold}
use Rattle.df_level.specs.Exact.{weighted}
use Rattle.df_level.specs.Row.{weighted_row, IsFalse}
use Rattle.df_level.specs.Division.{divisor_of, IsDivided}
use Rattle.df_level.specs.Levels.{Stands, IsCancelling, IsMade, kept, cancelled, IsFirstLevel}
use Rattle.df_level.specs.Elimination.{Reaches, here, further, AreRefuted}
use Rattle.df_level.proofs.Contents.{divisor_divides, some_divisor}
use Rattle.df_level.proofs.Lines.{all_divided}

-- quotients rounded down
module _ (d : ℕ) (some : 0 < d) where
  floor_high : (a : ℕ) → a < (a / d) * d + d
  floor_high a = omega arith

  floor_low : (a : ℕ) → (a / d) * d ≤ a
  floor_low a = omega arith

  above : (q n : ℕ) → n < q * d + d → pos n <ℤ ((pos d *ℤ pos q) +ℤ pos d)
  above q n h = omega (arith, ints)

  below : (q n : ℕ) → q * d ≤ n → negsuc n <ℤ ((pos d *ℤ negsuc q) +ℤ pos d)
  below q n h = omega (arith, ints)

  next_above : (k : ℤ) → k <ℤ ((pos d *ℤ quotient k (pos d)) +ℤ pos d)
  next_above (pos n) = above (n / d) n (floor_high n)
  next_above (negsuc n) = below (n / d) n (floor_low n)

  negative_times : (k : ℕ) → (pos d *ℤ negsuc k) +ℤ pos (d * suc k) ≡ pos 0
  negative_times k = omega (arith, ints)

  one_at_least : (k : ℕ) → d ≤ d * suc k
  one_at_least k = grind arith

  not_below : (a b x k : ℤ) (m : ℕ) → x ≡ a +ℤ b → x +ℤ pos m ≡ pos 0 → d ≤ m → pos 0 ≤ℤ (a +ℤ k) → k <ℤ (b +ℤ pos d) → ⊥
  not_below a b x k m e f le h less = omega (arith, ints)

  quotient_holds : (t k : ℤ) → pos 0 ≤ℤ ((pos d *ℤ t) +ℤ k) → pos 0 ≤ℤ (t +ℤ quotient k (pos d))
  quotient_holds t k h = by (t +ℤ quotient k (pos d)) refl
    where
      by : (s : ℤ) → t +ℤ quotient k (pos d) ≡ s → pos 0 ≤ℤ (t +ℤ quotient k (pos d))
      by (pos j) e = omega (arith, ints, e)
      by (negsuc j) e = absurd (not_below (pos d *ℤ t) (pos d *ℤ quotient k (pos d)) (pos d *ℤ negsuc j) k (d * suc j) (ap (λ z. pos d *ℤ z) (sym e) ∙ sum_times (pos d) t (quotient k (pos d))) (negative_times j) (one_at_least j) h (next_above k))

-- sums of two rows by factors
weighted_term : (f a g b x : ℤ) → weighted f a g b *ℤ x ≡ (f *ℤ (a *ℤ x)) +ℤ (g *ℤ (b *ℤ x))
weighted_term f a g b x = times_over_sum (f *ℤ a) (g *ℤ b) x ∙ (λ i. times_twice f a x i +ℤ times_twice g b x i)

sum_step : (t p q s u v p_more q_more : ℤ) → t ≡ p +ℤ q → s ≡ u +ℤ v → p_more ≡ p +ℤ u → q_more ≡ q +ℤ v → t +ℤ s ≡ p_more +ℤ q_more
sum_step t p q s u v p_more q_more e f g h = omega (arith, ints)

no_sums : (f g : ℤ) → pos 0 ≡ (f *ℤ pos 0) +ℤ (g *ℤ pos 0)
no_sums f g = let e : (f *ℤ pos 0) +ℤ (g *ℤ pos 0) ≡ pos 0 = λ i. *ℤ-zero f i +ℤ *ℤ-zero g i in sym e

weighted_sums : (count : ℕ) (f g : ℤ) (a b x : ℕ → ℤ) → sum_below count (λ n. weighted f (a n) g (b n) *ℤ x n) ≡ (f *ℤ sum_below count (λ n. a n *ℤ x n)) +ℤ (g *ℤ sum_below count (λ n. b n *ℤ x n))
weighted_sums zero f g a b x = no_sums f g
weighted_sums (suc n) f g a b x =
    let first = sum_below n (λ m. a m *ℤ x m) in
    let second = sum_below n (λ m. b m *ℤ x m) in
    sum_step (weighted f (a n) g (b n) *ℤ x n) (f *ℤ (a n *ℤ x n)) (g *ℤ (b n *ℤ x n)) (sum_below n (λ m. weighted f (a m) g (b m) *ℤ x m)) (f *ℤ first) (g *ℤ second) (f *ℤ ((a n *ℤ x n) +ℤ first)) (g *ℤ ((b n *ℤ x n) +ℤ second))
    (weighted_term f (a n) g (b n) (x n)) (weighted_sums n f g a b x) (sum_times f (a n *ℤ x n) first) (sum_times g (b n *ℤ x n) second)

multiple_holds : (m : ℕ) (z : ℤ) → pos 0 ≤ℤ z → pos 0 ≤ℤ (pos m *ℤ z)
multiple_holds m (pos n) h = omega (arith, ints)
multiple_holds m (negsuc n) h = absurd (omega (arith, ints))

two_hold : (s k a b u v x y : ℤ) → s ≡ a +ℤ b → k ≡ u +ℤ v → x ≡ a +ℤ u → y ≡ b +ℤ v → pos 0 ≤ℤ x → pos 0 ≤ℤ y → pos 0 ≤ℤ (s +ℤ k)
two_hold s k a b u v x y e f g h p q = omega (arith, ints)

module _ (count : ℕ) (numbers : ℕ → ℤ) where
  abbrev Holds : Row → Type 0
  Holds row = pos 0 ≤ℤ row_value count numbers row

  weighted_holds : (m k : ℕ) (first second : Row) → Holds first → Holds second → Holds (weighted_row (pos m) first (pos k) second)
  weighted_holds m k first second p q =
      let a = sum_below count (λ n. first.coefficient n *ℤ numbers n) in
      let b = sum_below count (λ n. second.coefficient n *ℤ numbers n) in
      two_hold (sum_below count (λ n. weighted (pos m) (first.coefficient n) (pos k) (second.coefficient n) *ℤ numbers n)) (weighted (pos m) first.constant (pos k) second.constant) (pos m *ℤ a) (pos k *ℤ b) (pos m *ℤ first.constant) (pos k *ℤ second.constant) (pos m *ℤ (a +ℤ first.constant)) (pos k *ℤ (b +ℤ second.constant))
      (weighted_sums count (pos m) (pos k) first.coefficient second.coefficient numbers) refl (sum_times (pos m) a first.constant) (sum_times (pos k) b second.constant) (multiple_holds m (row_value count numbers first) p) (multiple_holds k (row_value count numbers second) q)

  exact : (d : ℕ) (row : Row) → 0 < d → ((n : ℕ) → d ∣ unsigned_abs (row.coefficient n)) → (n : ℕ) → pos d *ℤ quotient (row.coefficient n) (pos d) ≡ row.coefficient n
  exact d row some h n =
      let test : ℕ → Bool = λ i. int_eq (pos d *ℤ quotient (row.coefficient i) (pos d)) (row.coefficient i) in
      let parts = and_parts (int_le (pos 1) (pos d)) (all_below (suc n) test) (all_divided (suc n) d row some h) in
      (Decides-int_eq (pos d *ℤ quotient (row.coefficient n) (pos d)) (row.coefficient n)).0 (and_parts (test n) (all_below n test) parts.1).0

  divided_holds : (row after : Row) → IsDivided row after → Holds row → Holds after
  divided_holds row after h holds =
      let d = divisor_of h.content in
      let some = some_divisor h.content in
      let sum = sum_below count (λ n. quotient (row.coefficient n) (pos d) *ℤ numbers n) in
      let P : ℤ → Type 0 = λ z. pos 0 ≤ℤ (z +ℤ row.constant) in
      let scaled = sum_scaled count row.coefficient (λ n. quotient (row.coefficient n) (pos d)) numbers (pos d) (λ n less. exact d row some (λ m. divisor_divides h.content (unsigned_abs (row.coefficient m)) (h.is_content.each m)) n) in
      let Q : Row → Type 0 = λ r. Holds r in
      subst Q (sym h.is) (quotient_holds d some sum row.constant (subst P scaled holds))

  abbrev AllHold : List Row → Type 0
  AllHold rows = (row : Row) → Stands row rows → Holds row

  first_holds : (rows first : List Row) → IsFirstLevel rows first → AllHold rows → AllHold first
  first_holds rows first is all row there = let from = is.each row there in divided_holds from.0 row from.2 (all from.0 from.1)

  sum_holds : (n : ℕ) (first second : Row) (f g : ℤ) → IsCancelling n first second f g → Holds first → Holds second → Holds (weighted_row f first g second)
  sum_holds n first second f g c p q =
      let P : ℤ → Type 0 = λ z. Holds (weighted_row z first g second) in
      let m = unsigned_abs (second.coefficient n) / c.divisor in
      let k = unsigned_abs (first.coefficient n) / c.divisor in
      let Q : ℤ → Type 0 = λ z. Holds (weighted_row (pos m) first z second) in
      subst P (sym c.is_factor) (subst Q (sym c.is_other_factor) (weighted_holds m k first second p q))

  made_holds : (n : ℕ) (rows : List Row) (row : Row) → AllHold rows → IsMade n rows rows row → Holds row
  made_holds n rows row all (kept there none) = all row there
  made_holds n rows row all (cancelled first second there other c) =
      divided_holds (weighted_row c.factor first c.other_factor second) row c.divided (sum_holds n first second c.factor c.other_factor c.cancelling (all first there) (all second other))

  levels_hold : (low from : ℕ) (rows level : List Row) → Reaches low rows from level → AllHold rows → AllHold level
  levels_hold low from rows level here all = all
  levels_hold low from rows level (further {n = n} {after = after} variable is_next rest) all =
      levels_hold (suc n) from after level rest (λ row there. made_holds n rows row all (is_next.each row there))

  false_fails : (row : Row) → IsFalse row → Holds row → ⊥
  false_fails row is holds =
      no_value (sum_below count (λ n. row.coefficient n *ℤ numbers n)) row.constant (no_sum count (λ n. row.coefficient n *ℤ numbers n) (λ n less. ap (λ z. z *ℤ numbers n) (is.zeros n) ∙ zero-*ℤ (numbers n))) is.below holds
    where
      no_value : (s k : ℤ) → s ≡ pos 0 → k <ℤ pos 0 → pos 0 ≤ℤ (s +ℤ k) → ⊥
      no_value s k e less h = omega (arith, ints)

  -- rows that hold at some numbers aren't refuted
  pub none_refuted : (rows : List Row) → AllHold rows → AreRefuted rows → ⊥
  none_refuted rows all refuted =
      let first = first_holds rows refuted.first refuted.is_first all in
      let level = levels_hold 0 refuted.from refuted.first refuted.level refuted.reaches first in
      false_fails refuted.has_false.row refuted.has_false.is_false (level refuted.has_false.row refuted.has_false.stands)

  pub row_is_met : (row : Row) → row_holds count numbers row ≡ true → Holds row
  row_is_met row e = to_le (row_value count numbers row) e

  each_holds : (rows : List Row) → rows_hold count numbers rows ≡ true → AllHold rows
  each_holds [] e row there = absurd there
  each_holds (r ∷ rows) e row (inl is) = subst (λ (x : Row). Holds x) (sym is) (row_is_met r (and_parts (row_holds count numbers r) (rows_hold count numbers rows) e).0)
  each_holds (r ∷ rows) e row (inr there) = each_holds rows (and_parts (row_holds count numbers r) (rows_hold count numbers rows) e).1 row there

  pub rows_unrefuted : (rows : List Row) → rows_hold count numbers rows ≡ true → AreRefuted rows → ⊥
  rows_unrefuted rows holds = none_refuted rows (each_holds rows holds)
