-- Integers and their sums, as rows need them.
use Rattle.std.proofs.Common.{◌≡◌, ℕ, zero, suc, ◌+◌, ◌*◌, ◌-◌, ◌/◌, ◌<◌, ◌≤◌, ℤ, pos, negsuc, ◌+ℤ◌, ◌*ℤ◌, int_le, Bool, true, false, cond, ◌==◌, refl, sym, ap, ◌∙◌, arith, subst, eqb-true, div-lt_iff_lt-mul, le-div_iff_mul-le}
use Rattle.std.proofs.lemmas.Int.{ints}
use Rattle.std.proofs.lemmas.Bool.{eqb-false, and_parts}
use Rattle.df_row.proofs.Sums.{same_sums}
use Rattle.df_lemmas.proofs.Integers.{times_over_sum, sum_times, times_twice}
use Rattle.df_row.specs.Row.{with_coefficient}
use Rattle.df_row.specs.Linear.{all_below, quotient}
use Rattle.df_row.specs.Value.{sum_below}

-- at least 0
abbrev pub IsNatural : ℤ → Type 0
IsNatural z = (k : ℕ) × (z ≡ pos k)

pub natural_by : (z x y : ℤ) → z +ℤ x ≡ y → int_le x y ≡ true → IsNatural z
natural_by (pos k) x y e le = (k, refl)
natural_by (negsuc k) x y e le = absurd (omega (arith, ints))

pub natural_above : (z x y : ℤ) → z +ℤ x ≡ y +ℤ negsuc 0 → int_le y x ≡ false → IsNatural z
natural_above (pos k) x y e le = (k, refl)
natural_above (negsuc k) x y e le = absurd (omega (arith, ints))

pub sum_of_naturals : (a b c : ℤ) → IsNatural a → int_le (pos 0) c ≡ true → IsNatural b → IsNatural (a +ℤ (c *ℤ b))
sum_of_naturals a b (pos c) p le q = (p.0 + c * q.0, (λ i. p.1 i +ℤ (pos c *ℤ q.1 i)) ∙ same p.0 c q.0)
  where
    same : (m c n : ℕ) → pos m +ℤ (pos c *ℤ pos n) ≡ pos (m + c * n)
    same m c n = omega (arith, ints)
sum_of_naturals a b (negsuc c) p le q = absurd (omega (arith, ints))

pub no_natural : (z : ℤ) → IsNatural z → int_le z (negsuc 0) ≡ true → ⊥
no_natural z p le = let e = p.1 in omega (arith, ints)

-- A sum that a number of at least 1 divides stays at least 0 when its constant is divided and rounded down.
pub rounded : (d : ℕ) (s c : ℤ) → 0 < d → IsNatural ((pos d *ℤ s) +ℤ c) → IsNatural (s +ℤ quotient c (pos d))
rounded d (pos s) (pos c) lt h = (s + c / d, refl)
rounded d (pos s) (negsuc c) lt h = next h.0 h.1
  where
    next : (k : ℕ) → (pos d *ℤ pos s) +ℤ negsuc c ≡ pos k → IsNatural (pos s +ℤ negsuc (c / d))
    next k e =
        let below : c < s * d = omega (arith, ints, e) in
        let less : c / d < s = (div-lt_iff_lt-mul lt).1 below in
        (s - suc (c / d), omega (arith, ints))
rounded d (negsuc s) (pos c) lt h = next h.0 h.1
  where
    next : (k : ℕ) → (pos d *ℤ negsuc s) +ℤ pos c ≡ pos k → IsNatural (negsuc s +ℤ pos (c / d))
    next k e =
        let above : suc s * d ≤ c = omega (arith, ints, e) in
        let more : suc s ≤ c / d = (le-div_iff_mul-le lt).1 above in
        (c / d - suc s, omega (arith, ints))
rounded d (negsuc s) (negsuc c) lt h = absurd (next h.0 h.1)
  where
    next : (k : ℕ) → (pos d *ℤ negsuc s) +ℤ negsuc c ≡ pos k → ⊥
    next k e = omega (arith, ints, e)

pub all_below_at : (count : ℕ) (test : ℕ → Bool) → all_below count test ≡ true → (n : ℕ) → n < count → test n ≡ true
all_below_at zero test e n lt = absurd (omega arith)
all_below_at (suc count) test e n lt =
    let parts = and_parts (test count) (all_below count test) e in
    next (n == count) refl parts.0 (all_below_at count test parts.1 n)
  where
    next : (b : Bool) → (n == count) ≡ b → test count ≡ true → (n < count → test n ≡ true) → test n ≡ true
    next true is here rest = subst (λ (m : ℕ). test m ≡ true) (sym (eqb-true n count is)) here
    next false is here rest = rest (omega (arith, eqb-false n count is))

regroup : (all first raw second sum more s t : ℤ) → all ≡ first +ℤ raw → raw ≡ second → sum ≡ second +ℤ more → s ≡ t +ℤ more → all +ℤ s ≡ (first +ℤ t) +ℤ sum
regroup all first raw second sum more s t e f g h = omega (arith, ints)

-- the sum of two sums, the second some times
pub sum_added : (count : ℕ) (f g v : ℕ → ℤ) (c : ℤ) → sum_below count (λ n. (f n +ℤ (c *ℤ g n)) *ℤ v n) ≡ sum_below count (λ n. f n *ℤ v n) +ℤ (c *ℤ sum_below count (λ n. g n *ℤ v n))
sum_added zero f g v c = omega (arith, ints)
sum_added (suc n) f g v c = next (f n) (g n) (v n) (sum_below n (λ m. (f m +ℤ (c *ℤ g m)) *ℤ v m)) (sum_below n (λ m. f m *ℤ v m)) (sum_below n (λ m. g m *ℤ v m)) (sum_added n f g v c)
  where
    next : (x y w s t u : ℤ) → s ≡ t +ℤ (c *ℤ u) → ((x +ℤ (c *ℤ y)) *ℤ w) +ℤ s ≡ ((x *ℤ w) +ℤ t) +ℤ (c *ℤ ((y *ℤ w) +ℤ u))
    next x y w s t u e = regroup ((x +ℤ (c *ℤ y)) *ℤ w) (x *ℤ w) ((c *ℤ y) *ℤ w) (c *ℤ (y *ℤ w)) (c *ℤ ((y *ℤ w) +ℤ u)) (c *ℤ u) s t (times_over_sum x (c *ℤ y) w) (times_twice c y w) (sum_times c (y *ℤ w) u) e

-- the sum with another coefficient for one number
unchanged : (count n : ℕ) (f : ℕ → ℤ) (c : ℤ) (v : ℕ → ℤ) → count ≤ n → sum_below count (λ m. with_coefficient f n c m *ℤ v m) ≡ sum_below count (λ m. f m *ℤ v m)
unchanged count n f c v le = same_sums count (λ m. with_coefficient f n c m *ℤ v m) (λ m. f m *ℤ v m) (λ m lt. other m (m == n) refl (omega arith))
  where
    other : (m : ℕ) (b : Bool) → (m == n) ≡ b → m < n → cond b c (f m) *ℤ v m ≡ f m *ℤ v m
    other m true e lt = absurd (omega (arith, eqb-true m n e))
    other m false e lt = refl

pub changed : (count n : ℕ) (f : ℕ → ℤ) (c : ℤ) (v : ℕ → ℤ) → n < count → sum_below count (λ m. with_coefficient f n c m *ℤ v m) +ℤ (f n *ℤ v n) ≡ sum_below count (λ m. f m *ℤ v m) +ℤ (c *ℤ v n)
changed zero n f c v lt = absurd (omega arith)
changed (suc k) n f c v lt = next (k == n) refl (changed k n f c v) (unchanged k n f c v)
  where
    here : (x y z w s t : ℤ) → s ≡ t → x ≡ z → y ≡ w → (y +ℤ s) +ℤ x ≡ (z +ℤ t) +ℤ w
    here x y z w s t e f g = omega (arith, ints)

    there : (x s y t z : ℤ) → s +ℤ y ≡ t +ℤ z → (x +ℤ s) +ℤ y ≡ (x +ℤ t) +ℤ z
    there x s y t z e = omega (arith, ints)

    next : (b : Bool) → (k == n) ≡ b
        → (n < k → sum_below k (λ m. with_coefficient f n c m *ℤ v m) +ℤ (f n *ℤ v n) ≡ sum_below k (λ m. f m *ℤ v m) +ℤ (c *ℤ v n))
        → (k ≤ n → sum_below k (λ m. with_coefficient f n c m *ℤ v m) ≡ sum_below k (λ m. f m *ℤ v m))
        → ((cond b c (f k) *ℤ v k) +ℤ sum_below k (λ m. with_coefficient f n c m *ℤ v m)) +ℤ (f n *ℤ v n) ≡ ((f k *ℤ v k) +ℤ sum_below k (λ m. f m *ℤ v m)) +ℤ (c *ℤ v n)
    next true e rest same =
        let is = eqb-true k n e in
        here (f n *ℤ v n) (c *ℤ v k) (f k *ℤ v k) (c *ℤ v n) (sum_below k (λ m. with_coefficient f n c m *ℤ v m)) (sum_below k (λ m. f m *ℤ v m)) (same (omega arith))
        (ap (λ m. f m *ℤ v m) (sym is)) (ap (λ m. c *ℤ v m) is)
    next false e rest same =
        there (f k *ℤ v k) (sum_below k (λ m. with_coefficient f n c m *ℤ v m)) (f n *ℤ v n) (sum_below k (λ m. f m *ℤ v m)) (c *ℤ v n) (rest (omega (arith, eqb-false k n e)))
