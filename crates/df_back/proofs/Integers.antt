-- Integers and their sums.
use Rattle.std.proofs.Common.{◌≡◌, ℕ, zero, suc, ◌+◌, ◌*◌, ◌-◌, ◌/◌, ◌<◌, ◌≤◌, ℤ, pos, negsuc, ◌+ℤ◌, ◌*ℤ◌, ◌≤ℤ◌, sym, ap, ◌∙◌, arith}
use Rattle.std.proofs.lemmas.Int.{ints}
use Rattle.df_lemmas.proofs.Integers.{times_over_sum, sum_times, times_twice}
use Rattle.df_row.specs.Linear.{quotient}
use Rattle.df_row.specs.Value.{sum_below}
use Rattle.df_level.specs.Exact.{weighted}

-- zeros from one number on, as many as there are
skip_by : (f : ℕ → ℤ) (low k : ℕ) → ((n : ℕ) → low ≤ n → n < k + low → f n ≡ pos 0) → sum_below (k + low) f ≡ sum_below low f
skip_by f low zero h = ap (λ n. sum_below n f) (same low)
  where
    same : (low : ℕ) → 0 + low ≡ low
    same low = omega arith
skip_by f low (suc k) h = ap (λ n. sum_below n f) (same k low) ∙ next (f (k + low)) (sum_below (k + low) f) (sum_below low f) (h (k + low) (omega arith) (omega arith)) (skip_by f low k (λ n at less. h n at (omega (arith, less))))
  where
    same : (k low : ℕ) → suc k + low ≡ suc (k + low)
    same k low = omega arith

    next : (x s t : ℤ) → x ≡ pos 0 → s ≡ t → x +ℤ s ≡ t
    next x s t e h = omega (arith, ints)

pub skip_zeros : (f : ℕ → ℤ) (low high : ℕ) → low ≤ high → ((n : ℕ) → low ≤ n → n < high → f n ≡ pos 0) → sum_below high f ≡ sum_below low f
skip_zeros f low high le h =
    let e : (high - low) + low ≡ high = omega arith in
    ap (λ n. sum_below n f) (sym e) ∙ skip_by f low (high - low) (λ n at less. h n at (omega (arith, e, less)))

-- the sum of two sums, each some times
pub sum_weighted : (count : ℕ) (f g : ℤ) (first second v : ℕ → ℤ) → sum_below count (λ n. weighted f (first n) g (second n) *ℤ v n) ≡ weighted f (sum_below count (λ n. first n *ℤ v n)) g (sum_below count (λ n. second n *ℤ v n))
sum_weighted zero f g first second v = omega (arith, ints)
sum_weighted (suc n) f g first second v = next (first n) (second n) (v n) (sum_below n (λ m. weighted f (first m) g (second m) *ℤ v m)) (sum_below n (λ m. first m *ℤ v m)) (sum_below n (λ m. second m *ℤ v m)) (sum_weighted n f g first second v)
  where
    regroup : (all x y p q s t u xx yy : ℤ) → all ≡ p +ℤ q → p ≡ x → q ≡ y → s ≡ t +ℤ u → xx ≡ x +ℤ t → yy ≡ y +ℤ u → all +ℤ s ≡ xx +ℤ yy
    regroup all x y p q s t u xx yy h1 h2 h3 h4 h5 h6 = omega (arith, ints)

    next : (x y w s t u : ℤ) → s ≡ weighted f t g u → (weighted f x g y *ℤ w) +ℤ s ≡ weighted f ((x *ℤ w) +ℤ t) g ((y *ℤ w) +ℤ u)
    next x y w s t u e = regroup (weighted f x g y *ℤ w) (f *ℤ (x *ℤ w)) (g *ℤ (y *ℤ w)) ((f *ℤ x) *ℤ w) ((g *ℤ y) *ℤ w) s (f *ℤ t) (g *ℤ u) (f *ℤ ((x *ℤ w) +ℤ t)) (g *ℤ ((y *ℤ w) +ℤ u)) (times_over_sum (f *ℤ x) (g *ℤ y) w) (times_twice f x w) (times_twice g y w) e (sum_times f (x *ℤ w) t) (sum_times g (y *ℤ w) u)

-- a sum that is at least 0 when its constant is divided and rounded down is so before
floor_times : (k : ℤ) (d : ℕ) → 1 ≤ d → (pos d *ℤ quotient k (pos d)) ≤ℤ k
floor_times (pos k) d some = let le : d * (k / d) ≤ k = omega arith in omega (arith, ints, le)
floor_times (negsuc k) d some = let less : k < d * (k / d) + d = omega arith in omega (arith, ints, less)

pub unrounded : (d : ℕ) (s k : ℤ) → 1 ≤ d → pos 0 ≤ℤ (s +ℤ quotient k (pos d)) → pos 0 ≤ℤ ((pos d *ℤ s) +ℤ k)
unrounded d s k some h = next (pos d *ℤ s) (pos d *ℤ quotient k (pos d)) (pos d *ℤ (s +ℤ quotient k (pos d))) (sum_times (pos d) s (quotient k (pos d))) (floor_times k d some) (natural_times d (s +ℤ quotient k (pos d)) h)
  where
    natural_times : (d : ℕ) (z : ℤ) → pos 0 ≤ℤ z → pos 0 ≤ℤ (pos d *ℤ z)
    natural_times d (pos z) h = omega (arith, ints)
    natural_times d (negsuc z) h = absurd (omega (arith, ints))

    next : (x y z : ℤ) → z ≡ x +ℤ y → y ≤ℤ k → pos 0 ≤ℤ z → pos 0 ≤ℤ (x +ℤ k)
    next x y z e le h = omega (arith, ints)
