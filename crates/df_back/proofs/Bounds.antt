-- The last number that a row allows a node.
use Rattle.std.proofs.Common.{◌≡◌, ⊎_elim, ℕ, zero, suc, ◌+◌, ◌*◌, ◌/◌, ◌<◌, ◌≤◌, ℤ, pos, negsuc, ◌+ℤ◌, ◌-ℤ◌, ◌*ℤ◌, neg_ℤ, ◌<ℤ◌, ◌≤ℤ◌, int_le, Bool, true, false, cond, nat_eq, Option, Some, None, refl, sym, ap, subst, ◌∙◌, arith}
use Rattle.std.proofs.lemmas.Int.{ints}
use Rattle.std.specs.Int.{int_div_euclid}
use Rattle.std.specs.Int.RustNames.{unsigned_abs}
use Rattle.std.proofs.lemmas.Bool.{eq-eqb, eqb-true, ne_eqb, cases_lt}
use Rattle.std.proofs.Math.IntN.{zero-*ℤ, *ℤ-zero}
use Rattle.df_row.proofs.Sums.{same_sums}
use Rattle.df_lemmas.proofs.Integers.{from_le, sum_times}
use Rattle.df_row.specs.Row.{Row, fits}
use Rattle.df_row.specs.RowView.{narrow, IsWithin}
use Rattle.df_row.specs.Value.{sum_below, row_value, row_holds}
use Rattle.df_back.specs.BackSubstitution.{with_number, IsWideSum, IsLastAllowed, at_rest, at_bound}
use Rattle.df_back.specs.Ranges.{TellsValue, IsLast, TellsLast, IsRowBound, TellsRowBound}

-- the number itself, and the others'
pub with_own : (numbers : ℕ → ℤ) (n : ℕ) (v : ℤ) → with_number numbers n v n ≡ v
with_own numbers n v = ap (λ t. cond t v (numbers n)) (eq-eqb n n refl)

pub with_other : (numbers : ℕ → ℤ) (n : ℕ) (v : ℤ) (m : ℕ) → (m ≡ n → ⊥) → with_number numbers n v m ≡ numbers m
with_other numbers n v m apart = ap (λ t. cond t v (numbers m)) (ne_eqb m n apart)

-- the same number once more
pub with_same : (numbers : ℕ → ℤ) (n : ℕ) (v : ℤ) → numbers n ≡ v → with_number numbers n v ≡ numbers
with_same numbers n v e = λ i m. by m (nat_eq m n) refl i
  where
    by : (m : ℕ) (b : Bool) → nat_eq m n ≡ b → with_number numbers n v m ≡ numbers m
    by m true h = ap (λ t. cond t v (numbers m)) h ∙ sym e ∙ ap numbers (sym (eqb-true m n h))
    by m false h = ap (λ t. cond t v (numbers m)) h

-- Another number for a node which has 0 adds so many times its coefficient.
module _ (f : ℕ → ℤ) (numbers : ℕ → ℤ) (n : ℕ) (v : ℤ) where
  abbrev new_term : ℕ → ℤ
  new_term m = f m *ℤ with_number numbers n v m

  abbrev old_term : ℕ → ℤ
  old_term m = f m *ℤ numbers m

  pub unchanged_sum : (count : ℕ) → count ≤ n → sum_below count new_term ≡ sum_below count old_term
  unchanged_sum count le = same_sums count new_term old_term (λ m less. ap (λ z. f m *ℤ z) (with_other numbers n v m (λ e. absurd (omega arith))))

  pub changed_sum : (count : ℕ) → n < count → numbers n ≡ pos 0 → sum_below count new_term ≡ sum_below count old_term +ℤ (f n *ℤ v)
  changed_sum zero less none = absurd (omega arith)
  changed_sum (suc k) less none = by (nat_eq n k) refl (changed_sum k)
    where
      here : (x y z s t : ℤ) → x ≡ z → y ≡ pos 0 → s ≡ t → x +ℤ s ≡ (y +ℤ t) +ℤ z
      here x y z s t e g h = omega (arith, ints)

      there : (x y s t z : ℤ) → x ≡ y → s ≡ t +ℤ z → x +ℤ s ≡ (y +ℤ t) +ℤ z
      there x y s t z e h = omega (arith, ints)

      by : (b : Bool) → nat_eq n k ≡ b → (n < k → numbers n ≡ pos 0 → sum_below k new_term ≡ sum_below k old_term +ℤ (f n *ℤ v)) → new_term k +ℤ sum_below k new_term ≡ (old_term k +ℤ sum_below k old_term) +ℤ (f n *ℤ v)
      by true h rest =
          let is = eqb-true n k h in
          here (new_term k) (old_term k) (f n *ℤ v) (sum_below k new_term) (sum_below k old_term)
          (ap new_term (sym is) ∙ ap (λ z. f n *ℤ z) (with_own numbers n v))
          (ap old_term (sym is) ∙ ap (λ z. f n *ℤ z) none ∙ *ℤ-zero (f n))
          (unchanged_sum k (omega (arith, is)))
      by false h rest =
          let apart : k ≡ n → ⊥ = λ e. true_not (sym (eq-eqb n k (sym e)) ∙ h) in
          there (new_term k) (old_term k) (sum_below k new_term) (sum_below k old_term) (f n *ℤ v)
          (ap (λ z. f k *ℤ z) (with_other numbers n v k apart)) (rest (below apart) none)
        where
          true_not : true ≡ false → ⊥
          true_not e = cc

          below : (k ≡ n → ⊥) → n < k
          below apart = grind arith

module _ (count : ℕ) (numbers : ℕ → ℤ) (n : ℕ) (row : Row) (v : ℤ) where
  regroup : (s t k x : ℤ) → s ≡ t +ℤ x → s +ℤ k ≡ (t +ℤ k) +ℤ x
  regroup s t k x e = omega (arith, ints)

  pub value_with : n < count → numbers n ≡ pos 0 → row_value count (with_number numbers n v) row ≡ row_value count numbers row +ℤ (row.coefficient n *ℤ v)
  value_with less none = regroup (sum_below count (new_term row.coefficient numbers n v)) (sum_below count (old_term row.coefficient numbers n v)) row.constant (row.coefficient n *ℤ v) (changed_sum row.coefficient numbers n v count less none)

  -- a row in which the node doesn't stand
  pub value_without : row.coefficient n ≡ pos 0 → row_value count (with_number numbers n v) row ≡ row_value count numbers row
  value_without none = ap (λ z. z +ℤ row.constant) (same_sums count (new_term row.coefficient numbers n v) (old_term row.coefficient numbers n v) (λ m less. by m (nat_eq m n) refl))
    where
      by : (m : ℕ) (b : Bool) → nat_eq m n ≡ b → new_term row.coefficient numbers n v m ≡ old_term row.coefficient numbers n v m
      by m true e =
          let zero_there : row.coefficient m ≡ pos 0 = ap row.coefficient (eqb-true m n e) ∙ none in
          ap (λ z. z *ℤ with_number numbers n v m) zero_there ∙ zero-*ℤ (with_number numbers n v m) ∙ sym (ap (λ z. z *ℤ numbers m) zero_there ∙ zero-*ℤ (numbers m))
      by m false e = ap (λ t. row.coefficient m *ℤ cond t v (numbers m)) e

-- a node that stands in a row is below the count
pub stands_below : (count : ℕ) (row : Row) (n : ℕ) → IsWithin count row → (row.coefficient n ≡ pos 0 → ⊥) → n < count
stands_below count row n within some = ⊎_elim (λ h. h) (λ past. absurd (some (within.zero_from n past))) (cases_lt n count)

-- tests
pub to_fails : (z : ℤ) → z <ℤ pos 0 → int_le (pos 0) z ≡ false
to_fails z h = grind (arith, ints)

pub from_fails : (z : ℤ) → int_le (pos 0) z ≡ false → z <ℤ pos 0
from_fails z h = grind (arith, ints)

-- how far one number is above another
pub gap_of : (z v : ℤ) → z ≤ℤ v → (k : ℕ) × (v ≡ z +ℤ pos k)
gap_of z v le = by (v -ℤ z) refl
  where
    by : (d : ℤ) → v -ℤ z ≡ d → (k : ℕ) × (v ≡ z +ℤ pos k)
    by (pos k) e = (k, omega (arith, ints, e))
    by (negsuc k) e = absurd (omega (arith, ints, e))

some_gap : (z v : ℤ) (k : ℕ) → z <ℤ v → v ≡ z +ℤ pos k → 1 ≤ k
some_gap z v k less e = omega (arith, ints, e)

no_less : (a k : ℕ) → 1 ≤ k → a ≤ a * k
no_less a k h = grind arith

positive_times : (a k : ℕ) → pos a *ℤ pos k ≡ pos (a * k)
positive_times a k = omega (arith, ints)

negative_times : (b k : ℕ) → (negsuc b *ℤ pos k) +ℤ pos (suc b * k) ≡ pos 0
negative_times b k = omega (arith, ints)

-- so many times a number, and times one that is so much more
stepped : (c z v : ℤ) (k : ℕ) → v ≡ z +ℤ pos k → c *ℤ v ≡ (c *ℤ z) +ℤ (c *ℤ pos k)
stepped c z v k e = ap (λ x. c *ℤ x) e ∙ sum_times c z (pos k)

up_holds : (rest x y d : ℤ) (m : ℕ) → pos 0 ≤ℤ (rest +ℤ x) → y ≡ x +ℤ d → d ≡ pos m → pos 0 ≤ℤ (rest +ℤ y)
up_holds rest x y d m h e f = omega (arith, ints)

up_fails : (rest x y d : ℤ) (a m : ℕ) → (rest +ℤ x) <ℤ pos a → x ≡ y +ℤ d → d ≡ pos m → a ≤ m → (rest +ℤ y) <ℤ pos 0
up_fails rest x y d a m h e f le = omega (arith, ints)

down_holds : (rest x y d : ℤ) (m : ℕ) → pos 0 ≤ℤ (rest +ℤ x) → x ≡ y +ℤ d → d +ℤ pos m ≡ pos 0 → pos 0 ≤ℤ (rest +ℤ y)
down_holds rest x y d m h e f = omega (arith, ints)

down_fails : (rest x y d : ℤ) (a m : ℕ) → (rest +ℤ x) <ℤ pos a → y ≡ x +ℤ d → d +ℤ pos m ≡ pos 0 → a ≤ m → (rest +ℤ y) <ℤ pos 0
down_fails rest x y d a m h e f le = omega (arith, ints)

pub low_holds : (c rest z v : ℤ) → IsLast c rest z → pos 0 <ℤ c → z ≤ℤ v → pos 0 ≤ℤ (rest +ℤ (c *ℤ v))
low_holds (pos a) rest z v is positive le =
    let g = gap_of z v le in
    up_holds rest (pos a *ℤ z) (pos a *ℤ v) (pos a *ℤ pos g.0) (a * g.0) is.holds (stepped (pos a) z v g.0 g.1) (positive_times a g.0)
low_holds (negsuc b) rest z v is positive le = absurd (omega (arith, ints))

pub low_fails : (c rest z v : ℤ) → IsLast c rest z → pos 0 <ℤ c → v <ℤ z → (rest +ℤ (c *ℤ v)) <ℤ pos 0
low_fails (pos a) rest z v is positive less =
    let g = gap_of v z (omega (arith, ints)) in
    up_fails rest (pos a *ℤ z) (pos a *ℤ v) (pos a *ℤ pos g.0) a (a * g.0) is.last (stepped (pos a) v z g.0 g.1) (positive_times a g.0) (no_less a g.0 (some_gap v z g.0 less g.1))
low_fails (negsuc b) rest z v is positive less = absurd (omega (arith, ints))

pub high_holds : (c rest z v : ℤ) → IsLast c rest z → c <ℤ pos 0 → v ≤ℤ z → pos 0 ≤ℤ (rest +ℤ (c *ℤ v))
high_holds (pos a) rest z v is negative le = absurd (omega (arith, ints))
high_holds (negsuc b) rest z v is negative le =
    let g = gap_of v z le in
    down_holds rest (negsuc b *ℤ z) (negsuc b *ℤ v) (negsuc b *ℤ pos g.0) (suc b * g.0) is.holds (stepped (negsuc b) v z g.0 g.1) (negative_times b g.0)

pub high_fails : (c rest z v : ℤ) → IsLast c rest z → c <ℤ pos 0 → z <ℤ v → (rest +ℤ (c *ℤ v)) <ℤ pos 0
high_fails (pos a) rest z v is negative less = absurd (omega (arith, ints))
high_fails (negsuc b) rest z v is negative less =
    let g = gap_of z v (omega (arith, ints)) in
    down_fails rest (negsuc b *ℤ z) (negsuc b *ℤ v) (negsuc b *ℤ pos g.0) (suc b) (suc b * g.0) is.last (stepped (negsuc b) z v g.0 g.1) (negative_times b g.0) (no_less (suc b) g.0 (some_gap z v g.0 less g.1))

-- the last number, from a quotient
times_negated : (d q : ℕ) → (pos d *ℤ neg_ℤ (pos q)) +ℤ pos (d * q) ≡ pos 0
times_negated d zero = omega (arith, ints)
times_negated d (suc q) = omega (arith, ints)

twice_negated : (q : ℕ) → neg_ℤ (neg_ℤ (pos q)) ≡ pos q
twice_negated zero = refl
twice_negated (suc q) = refl

at_most : (a d q : ℕ) (x : ℤ) → x +ℤ pos (d * q) ≡ pos 0 → d * q ≤ a → a < d * q + d → (pos 0 ≤ℤ (pos a +ℤ x)) × ((pos a +ℤ x) <ℤ pos d)
at_most a d q x e low high = (omega (arith, ints), omega (arith, ints))

below_zero : (a d q : ℕ) (x : ℤ) → x ≡ pos (d * suc q) → d * q ≤ a → a < d * q + d → (pos 0 ≤ℤ (negsuc a +ℤ x)) × ((negsuc a +ℤ x) <ℤ pos d)
below_zero a d q x e low high = (omega (arith, ints), omega (arith, ints))

floor_low : (a d : ℕ) → 1 ≤ d → d * (a / d) ≤ a
floor_low a d some = omega arith

floor_high : (a d : ℕ) → 1 ≤ d → a < d * (a / d) + d
floor_high a d some = omega arith

both_negative : (b k : ℕ) → negsuc b *ℤ negsuc k ≡ pos (suc b * suc k)
both_negative b k = omega (arith, ints)

last_of : (c rest z : ℤ) (a : ℕ) → a ≡ unsigned_abs c → (pos 0 ≤ℤ (rest +ℤ (c *ℤ z))) × ((rest +ℤ (c *ℤ z)) <ℤ pos a) → IsLast c rest z
last_of c rest z a e h = record { holds = h.0; last = subst (λ (k : ℕ). (rest +ℤ (c *ℤ z)) <ℤ pos k) e h.1 }

pub euclid_last : (c rest : ℤ) → (c ≡ pos 0 → ⊥) → IsLast c rest (neg_ℤ (int_div_euclid rest c))
euclid_last (pos zero) rest some = absurd (some refl)
euclid_last (pos (suc b)) (pos a) some = last_of (pos (suc b)) (pos a) (neg_ℤ (pos (a / suc b))) (suc b) refl (at_most a (suc b) (a / suc b) (pos (suc b) *ℤ neg_ℤ (pos (a / suc b))) (times_negated (suc b) (a / suc b)) (floor_low a (suc b) (omega arith)) (floor_high a (suc b) (omega arith)))
euclid_last (pos (suc b)) (negsuc a) some = last_of (pos (suc b)) (negsuc a) (pos (suc (a / suc b))) (suc b) refl (below_zero a (suc b) (a / suc b) (pos (suc b) *ℤ pos (suc (a / suc b))) (positive_times (suc b) (suc (a / suc b))) (floor_low a (suc b) (omega arith)) (floor_high a (suc b) (omega arith)))
euclid_last (negsuc b) (pos a) some =
    let P : ℤ → Type 0 = λ z. IsLast (negsuc b) (pos a) z in
    subst P (sym (twice_negated (a / suc b)))
    (last_of (negsuc b) (pos a) (pos (a / suc b)) (suc b) refl (at_most a (suc b) (a / suc b) (negsuc b *ℤ pos (a / suc b)) (negative_times b (a / suc b)) (floor_low a (suc b) (omega arith)) (floor_high a (suc b) (omega arith))))
euclid_last (negsuc b) (negsuc a) some = last_of (negsuc b) (negsuc a) (negsuc (a / suc b)) (suc b) refl (below_zero a (suc b) (a / suc b) (negsuc b *ℤ negsuc (a / suc b)) (both_negative b (a / suc b)) (floor_low a (suc b) (omega arith)) (floor_high a (suc b) (omega arith)))

pub tells_last : (c rest q : ℤ) (o : Option ℤ) → (c ≡ pos 0 → ⊥) → q ≡ int_div_euclid rest c → o ≡ narrow (neg_ℤ q) → TellsLast c rest o
tells_last c rest q o some e is =
    let z : ℤ = neg_ℤ (int_div_euclid rest c) in
    let P : Option ℤ → Type 0 = TellsLast c rest in
    subst P (sym (is ∙ ap (λ x. narrow (neg_ℤ x)) e)) (by z (fits z) refl (euclid_last c rest some))
  where
    by : (z : ℤ) (b : Bool) → fits z ≡ b → IsLast c rest z → TellsLast c rest (cond (fits z) (Some z) None)
    by z true h last = let P : Bool → Type 0 = λ t. TellsLast c rest (cond t (Some z) None) in subst P (sym h) last
    by z false h last = let P : Bool → Type 0 = λ t. TellsLast c rest (cond t (Some z) None) in subst P (sym h) (record { z = z; is = last; wide = h })

pub minus_one_last : (rest : ℤ) → IsLast (negsuc 0) rest rest
minus_one_last rest = record { holds = low rest; last = high rest }
  where
    low : (r : ℤ) → pos 0 ≤ℤ (r +ℤ (negsuc 0 *ℤ r))
    low r = omega (arith, ints)

    high : (r : ℤ) → (r +ℤ (negsuc 0 *ℤ r)) <ℤ pos 1
    high r = omega (arith, ints)

pub tells_minus_one : (c rest : ℤ) → c ≡ negsuc 0 → TellsLast c rest (Some rest)
tells_minus_one c rest e = let P : ℤ → Type 0 = λ x. IsLast x rest rest in subst P (sym e) (minus_one_last rest)

-- what the row allows the node
module _ (count : ℕ) (numbers : ℕ → ℤ) (n : ℕ) (row : Row) (less : n < count) (none : numbers n ≡ pos 0) where
  abbrev rest : ℤ
  rest = row_value count numbers row

  holds_by : (v : ℤ) → pos 0 ≤ℤ (rest +ℤ (row.coefficient n *ℤ v)) → row_holds count (with_number numbers n v) row ≡ true
  holds_by v h = ap (int_le (pos 0)) (value_with count numbers n row v less none) ∙ from_le (rest +ℤ (row.coefficient n *ℤ v)) h

  fails_by : (v : ℤ) → (rest +ℤ (row.coefficient n *ℤ v)) <ℤ pos 0 → row_holds count (with_number numbers n v) row ≡ false
  fails_by v h = ap (int_le (pos 0)) (value_with count numbers n row v less none) ∙ to_fails (rest +ℤ (row.coefficient n *ℤ v)) h

  pub row_bound : (z : ℤ) → IsLast (row.coefficient n) rest z → IsRowBound count numbers n row z
  row_bound z is = record {
    low = λ positive. record { from = λ v le. holds_by v (low_holds (row.coefficient n) rest z v is positive le); under = λ v lt. fails_by v (low_fails (row.coefficient n) rest z v is positive lt) };
    high = λ negative. record { to = λ v le. holds_by v (high_holds (row.coefficient n) rest z v is negative le); over = λ v lt. fails_by v (high_fails (row.coefficient n) rest z v is negative lt) };
  }

  pub last_allowed : (z : ℤ) → IsLast (row.coefficient n) rest z → IsLastAllowed count numbers n row z
  last_allowed z is = record {
    holds = holds_by z is.holds;
    least = λ positive. fails_by (z -ℤ pos 1) (low_fails (row.coefficient n) rest z (z -ℤ pos 1) is positive (before z));
    greatest = λ negative. fails_by (z +ℤ pos 1) (high_fails (row.coefficient n) rest z (z +ℤ pos 1) is negative (after z));
  }
    where
      before : (z : ℤ) → (z -ℤ pos 1) <ℤ z
      before z = omega (arith, ints)

      after : (z : ℤ) → z <ℤ (z +ℤ pos 1)
      after z = omega (arith, ints)

  pub tells_bound : (r : ℤ) (o : Option ℤ) → r ≡ rest → TellsLast (row.coefficient n) r o → TellsRowBound count numbers n row o
  tells_bound r (Some z) e h = let P : ℤ → Type 0 = λ x. IsLast (row.coefficient n) x z in row_bound z (subst P e h)
  tells_bound r None e h = let P : ℤ → Type 0 = λ x. IsLast (row.coefficient n) x h.z in at_bound h.z (last_allowed h.z (subst P e h.is)) h.wide

  tells_rest : IsWideSum count numbers row → TellsRowBound count numbers n row None
  tells_rest h = let P : (ℕ → ℤ) → Type 0 = λ f. IsWideSum count f row in at_rest (subst P (sym (with_same numbers n (pos 0) none)) h)

  pub tells_none : (o result : Option ℤ) → TellsValue count numbers row o → o ≡ None → result ≡ None → TellsRowBound count numbers n row result
  tells_none o result h e is =
      let P : Option ℤ → Type 0 = TellsValue count numbers row in
      let Q : Option ℤ → Type 0 = TellsRowBound count numbers n row in
      subst Q (sym is) (tells_rest (subst P e h))

  pub tells_some : (o result : Option ℤ) (r s k : ℤ) → TellsValue count numbers row o → o ≡ Some r → s ≡ r → k ≡ row.coefficient n → TellsLast k s result → TellsRowBound count numbers n row result
  tells_some o result r s k h e is same last =
      let P : Option ℤ → Type 0 = TellsValue count numbers row in
      let Q : ℤ → Type 0 = λ x. TellsLast x s result in
      tells_bound s result (is ∙ subst P e h) (subst Q same last)
