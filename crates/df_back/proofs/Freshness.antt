-- The bounds between which a variable lies are no rows of the first level.
use Rattle.std.proofs.Common.{◌≡◌, ◌⊎◌, ⊎_elim, ℕ, suc, ◌+◌, ◌*◌, ◌/◌, ◌<◌, ◌≤◌, ℤ, pos, negsuc, ◌+ℤ◌, ◌-ℤ◌, ◌*ℤ◌, ◌<ℤ◌, ◌≤ℤ◌, Bool, true, false, cond, nat_eq, List, [], ◌∷◌, refl, sym, ap, subst, ◌∙◌, arith}
use Rattle.std.proofs.Math.Nat.{mul-div_cancel', mul-le-mul_left, one-dvd}
use Rattle.std.proofs.lemmas.Int.{ints}
use Rattle.std.specs.Int.{IsGcd, ◌∣◌}
use Rattle.std.specs.Int.RustNames.{unsigned_abs}
use Rattle.std.proofs.lemmas.Bool.{eq-eqb, eqb-true}
use Rattle.std.proofs.Math.IntN.{zero-*ℤ, *ℤ-zero}
use Rattle.df_row.proofs.Sums.{no_sum, sum_scaled}
use Rattle.df_lemmas.proofs.Integers.{to_le, times_over_sum, sum_times}
use Rattle.df_lemmas.proofs.Numbers.{less_unequal}
use Rattle.df_row.specs.Row.{Row}
use Rattle.df_row.specs.RowView.{IsWithin}
use Rattle.df_row.specs.Linear.{quotient}
use Rattle.df_row.specs.Value.{sum_below, row_value, row_holds}
use Rattle.df_level.specs.Row.{weighted_row}
use Rattle.df_level.specs.Exact.{weighted}
use Rattle.df_level.specs.Division.{IsDivided, divisor_of, quotient_row}
use Rattle.df_level.specs.Levels.{Stands, IsCancelling, IsMade, kept, cancelled}
use Rattle.df_level.specs.Elimination.{Eliminates}
use Rattle.df_level.proofs.Contents.{divisor_divides, some_divisor}
use Rattle.df_back.specs.BackSubstitution as definitions
use Rattle.df_back.specs.BackSubstitution.{with_number, BackSubstitution, IsBetween, IsBoundAbove, IsBoundBelow}
use Rattle.df_back.specs.BackView.{at_most_row, at_least_row}
use Rattle.df_back.proofs.Integers.{sum_weighted, unrounded}
use Rattle.df_back.proofs.Bounds.{value_with, from_fails}
use Rattle.df_back.proofs.Divisors.{content_of}
use Rattle.df_back.proofs.Chains.{IsChain, variable_of, level_of, others_of, chain_on, variable_below, zero_before, all_hold, weighted_zero}

-- what divides a number gives it back
divides_back : (d : ℕ) (z : ℤ) → 1 ≤ d → d ∣ unsigned_abs z → pos d *ℤ quotient z (pos d) ≡ z
divides_back d (pos n) some h = positive d (n / d) n (mul-div_cancel' d h)
  where
    positive : (d q n : ℕ) → d * q ≡ n → pos d *ℤ pos q ≡ pos n
    positive d q n e = omega (arith, ints)
divides_back d (negsuc n) some h = negative d (suc n / d) (n / d) n (mul-div_cancel' d h) (let le : d * (n / d) ≤ n = omega arith in le) (let less : n < d * (n / d) + d = omega arith in less)
  where
    sides : (q x : ℕ) → (q ≤ x) ⊎ ((q ≡ suc x) ⊎ (suc (suc x) ≤ q))
    sides q x = grind arith

    same : (d q x n : ℕ) → d * q ≡ suc n → d * x ≤ n → n < d * x + d → q ≡ suc x
    same d q x n e low high = ⊎_elim (λ le. absurd (omega (arith, e, low, mul-le-mul_left d le))) (λ y. ⊎_elim (λ is. is) (λ le. absurd (omega (arith, e, high, mul-le-mul_left d le))) y) (sides q x)

    negative : (d q x n : ℕ) → d * q ≡ suc n → d * x ≤ n → n < d * x + d → pos d *ℤ negsuc x ≡ negsuc n
    negative d q x n e low high =
        let is = same d q x n e low high in
        let all : d * suc x ≡ suc n = ap (λ y. d * y) (sym is) ∙ e in
        product d x n all
      where
        product : (d x n : ℕ) → d * suc x ≡ suc n → pos d *ℤ negsuc x ≡ negsuc n
        product d x n e = omega (arith, ints, e)

module _ (count : ℕ) (numbers : ℕ → ℤ) where
  -- a row whose quotient holds holds
  undivided : (row after : Row) → IsDivided row after → row_holds count numbers after ≡ true → pos 0 ≤ℤ row_value count numbers row
  undivided row after h holds =
      let d = divisor_of h.content in
      let some : 1 ≤ d = some_divisor h.content in
      let P : Row → Type 0 = λ r. pos 0 ≤ℤ row_value count numbers r in
      let low = subst P h.is (to_le (row_value count numbers after) holds) in
      let scaled = sum_scaled count row.coefficient (λ n. quotient (row.coefficient n) (pos d)) numbers (pos d) (λ n less. divides_back d (row.coefficient n) some (divisor_divides h.content (unsigned_abs (row.coefficient n)) (h.is_content.each n))) in
      let Q : ℤ → Type 0 = λ s. pos 0 ≤ℤ (s +ℤ row.constant) in
      subst Q (sym scaled) (unrounded d (sum_below count (λ n. quotient (row.coefficient n) (pos d) *ℤ numbers n)) row.constant some low)

  weighted_value : (f g : ℤ) (first second : Row) → row_value count numbers (weighted_row f first g second) ≡ weighted f (row_value count numbers first) g (row_value count numbers second)
  weighted_value f g first second =
      let a = sum_below count (λ n. first.coefficient n *ℤ numbers n) in
      let b = sum_below count (λ n. second.coefficient n *ℤ numbers n) in
      next (sum_below count (λ n. weighted f (first.coefficient n) g (second.coefficient n) *ℤ numbers n)) (f *ℤ a) (g *ℤ b) (f *ℤ first.constant) (g *ℤ second.constant) (f *ℤ (a +ℤ first.constant)) (g *ℤ (b +ℤ second.constant))
      (sum_weighted count f g first.coefficient second.coefficient numbers) (sum_times f a first.constant) (sum_times g b second.constant)
    where
      next : (s x y k l xx yy : ℤ) → s ≡ x +ℤ y → xx ≡ x +ℤ k → yy ≡ y +ℤ l → s +ℤ (k +ℤ l) ≡ xx +ℤ yy
      next s x y k l xx yy e p q = omega (arith, ints)

-- The sum of two rows that cancels a variable holds at the numbers of the later ones.
module _ (count low n : ℕ) (rows after : List Row) (variables : List ℕ) (levels : List (List Row)) (chain : IsChain count low rows (n ∷ variables) (after ∷ levels)) (numbers : ℕ → ℤ) (so_far : BackSubstitution count after variables levels numbers) where
  sum_holds : (first second : Row) (f g : ℤ) → Stands first rows → Stands second rows → IsCancelling n first second f g → pos 0 ≤ℤ weighted f (row_value count numbers first) g (row_value count numbers second)
  sum_holds first second f g there other cancelling =
      let sum = weighted_row f first g second in
      let within : IsWithin count sum = record { zero_from = λ m past. weighted_zero f (first.coefficient m) g (second.coefficient m) ((chain.inside.each first there).zero_from m past) ((chain.inside.each second other).zero_from m past) } in
      let content = content_of count sum within in
      let row = quotient_row (divisor_of content.divisor) sum in
      let divided : IsDivided sum row = record { content = content.divisor; is_content = content.is; is = refl } in
      let made : IsMade n rows rows row = cancelled first second there other (record { factor = f; other_factor = g; cancelling = cancelling; divided = divided }) in
      let holds = all_hold count (suc n) after variables levels numbers so_far (chain_on chain) row ((level_of chain.eliminates).all row made) in
      let P : ℤ → Type 0 = λ z. pos 0 ≤ℤ z in
      subst P (weighted_value count numbers f g first second) (undivided count numbers sum row divided holds)

  zero_own : numbers n ≡ pos 0
  zero_own = zero_before count (suc n) after variables levels numbers so_far (others_of chain.eliminates) n (omega arith)

  own_below : n < count
  own_below = variable_below count low n rows after variables levels chain

  -- a row of the node alone has its constant
  alone : (c : ℤ) → sum_below count (λ m. cond (nat_eq m n) c (pos 0) *ℤ numbers m) ≡ pos 0
  alone c = no_sum count (λ m. cond (nat_eq m n) c (pos 0) *ℤ numbers m) (λ m less. by m (nat_eq m n) refl)
    where
      by : (m : ℕ) (b : Bool) → nat_eq m n ≡ b → cond (nat_eq m n) c (pos 0) *ℤ numbers m ≡ pos 0
      by m true e = ap (λ z. cond (nat_eq m n) c (pos 0) *ℤ z) (ap numbers (eqb-true m n e) ∙ zero_own) ∙ *ℤ-zero (cond (nat_eq m n) c (pos 0))
      by m false e = ap (λ t. cond t c (pos 0) *ℤ numbers m) e ∙ zero-*ℤ (numbers m)

  at_most_value : (k : ℤ) → row_value count numbers (at_most_row n k) ≡ k
  at_most_value k = next (sum_below count (λ m. cond (nat_eq m n) (negsuc 0) (pos 0) *ℤ numbers m)) k (alone (negsuc 0))
    where
      next : (s k : ℤ) → s ≡ pos 0 → s +ℤ k ≡ k
      next s k e = omega (arith, ints)

  at_least_value : (k : ℤ) → row_value count numbers (at_least_row n k) ≡ pos 0 -ℤ k
  at_least_value k = next (sum_below count (λ m. cond (nat_eq m n) (pos 1) (pos 0) *ℤ numbers m)) (pos 0 -ℤ k) (alone (pos 1))
    where
      next : (s k : ℤ) → s ≡ pos 0 → s +ℤ k ≡ k
      next s k e = omega (arith, ints)

  one_gcd : (a b : ℕ) → b ≡ 1 → IsGcd a b 1
  one_gcd a b e = (one-dvd a, one-dvd b, λ d p q. let P : ℕ → Type 0 = λ x. d ∣ x in subst P e q)

  gcd_one : (a b : ℕ) → a ≡ 1 → IsGcd a b 1
  gcd_one a b e = (one-dvd a, one-dvd b, λ d p q. let P : ℕ → Type 0 = λ x. d ∣ x in subst P e p)

  by_one : (n : ℕ) → n / 1 ≡ n
  by_one n = omega arith

  own_at_most : (k : ℤ) → (at_most_row n k).coefficient n ≡ negsuc 0
  own_at_most k = ap (λ t. cond t (negsuc 0) (pos 0)) (eq-eqb n n refl)

  own_at_least : (k : ℤ) → (at_least_row n k).coefficient n ≡ pos 1
  own_at_least k = ap (λ t. cond t (pos 1) (pos 0)) (eq-eqb n n refl)

  positive_abs : (c : ℤ) → pos 0 <ℤ c → pos (unsigned_abs c) ≡ c
  positive_abs (pos c) h = refl
  positive_abs (negsuc c) h = absurd (omega (arith, ints))

  negative_abs : (c : ℤ) → c <ℤ pos 0 → pos (unsigned_abs c) +ℤ c ≡ pos 0
  negative_abs (pos c) h = absurd (omega (arith, ints))
  negative_abs (negsuc c) h = omega (arith, ints)

  below_zero : (v x : ℤ) → pos 0 ≤ℤ ((pos 1 *ℤ v) +ℤ x) → (v +ℤ x) <ℤ pos 0 → ⊥
  below_zero v x h less = omega (arith, ints)

  below_zero_turned : (v x y : ℤ) → y ≡ x → pos 0 ≤ℤ (y +ℤ (pos 1 *ℤ v)) → (v +ℤ x) <ℤ pos 0 → ⊥
  below_zero_turned v x y e h less = omega (arith, ints)

  turned : (a c k : ℤ) → a +ℤ c ≡ pos 0 → a *ℤ (pos 0 -ℤ k) ≡ c *ℤ k
  turned a c k e = next (a *ℤ (pos 0 -ℤ k)) (a *ℤ k) (c *ℤ k) (sym (sum_times a (pos 0 -ℤ k) k) ∙ ap (λ z. a *ℤ z) (nothing k) ∙ *ℤ-zero a) (sym (times_over_sum a c k) ∙ ap (λ z. z *ℤ k) e ∙ zero-*ℤ k)
    where
      nothing : (k : ℤ) → (pos 0 -ℤ k) +ℤ k ≡ pos 0
      nothing k = omega (arith, ints)

      next : (x y z : ℤ) → x +ℤ y ≡ pos 0 → y +ℤ z ≡ pos 0 → x ≡ z
      next x y z e f = omega (arith, ints)

  -- the value of a row with the number for the node is below 0
  fails_below : (row : Row) (k : ℤ) → row_holds count (with_number numbers n k) row ≡ false → (row_value count numbers row +ℤ (row.coefficient n *ℤ k)) <ℤ pos 0
  fails_below row k fails =
      let P : ℤ → Type 0 = λ z. z <ℤ pos 0 in
      subst P (value_with count numbers n row k own_below zero_own) (from_fails (row_value count (with_number numbers n k) row) fails)

  no_at_most : (k : ℤ) → IsBoundAbove count rows numbers n k → Stands (at_most_row n k) rows → ⊥
  no_at_most k above stands =
      let row = above.row in
      let bound = at_most_row n k in
      let c = row.coefficient n in
      let f : ℤ = pos (unsigned_abs (bound.coefficient n) / 1) in
      let g : ℤ = pos (unsigned_abs c / 1) in
      let N : ℤ → Type 0 = λ z. z <ℤ pos 0 in
      let cancelling : IsCancelling n row bound f g = record {
        divisor = 1;
        positive = above.positive;
        negative = subst N (sym (own_at_most k)) (minus_one (pos 0));
        is_gcd = one_gcd (unsigned_abs c) (unsigned_abs (bound.coefficient n)) (ap unsigned_abs (own_at_most k));
        is_factor = refl;
        is_other_factor = refl;
      } in
      let is_f : f ≡ pos 1 = ap (λ z. pos (unsigned_abs z / 1)) (own_at_most k) ∙ ap pos (by_one 1) in
      let is_g : g ≡ c = ap pos (by_one (unsigned_abs c)) ∙ positive_abs c above.positive in
      let P : ℤ → Type 0 = λ z. pos 0 ≤ℤ weighted z (row_value count numbers row) g (row_value count numbers bound) in
      let Q : ℤ → Type 0 = λ z. pos 0 ≤ℤ weighted (pos 1) (row_value count numbers row) z (row_value count numbers bound) in
      let R : ℤ → Type 0 = λ z. pos 0 ≤ℤ weighted (pos 1) (row_value count numbers row) c z in
      below_zero (row_value count numbers row) (c *ℤ k) (subst R (at_most_value k) (subst Q is_g (subst P is_f (sum_holds row bound f g above.stands stands cancelling)))) (fails_below row k above.fails)
    where
      minus_one : (z : ℤ) → negsuc 0 <ℤ pos 0
      minus_one z = omega (arith, ints)

  no_at_least : (k : ℤ) → IsBoundBelow count rows numbers n k → Stands (at_least_row n k) rows → ⊥
  no_at_least k below stands =
      let row = below.row in
      let bound = at_least_row n k in
      let c = row.coefficient n in
      let f : ℤ = pos (unsigned_abs c / 1) in
      let g : ℤ = pos (unsigned_abs (bound.coefficient n) / 1) in
      let N : ℤ → Type 0 = λ z. pos 0 <ℤ z in
      let cancelling : IsCancelling n bound row f g = record {
        divisor = 1;
        positive = subst N (sym (own_at_least k)) (one (pos 0));
        negative = below.negative;
        is_gcd = gcd_one (unsigned_abs (bound.coefficient n)) (unsigned_abs c) (ap unsigned_abs (own_at_least k));
        is_factor = refl;
        is_other_factor = refl;
      } in
      let is_f : f ≡ pos (unsigned_abs c) = ap pos (by_one (unsigned_abs c)) in
      let is_g : g ≡ pos 1 = ap (λ z. pos (unsigned_abs z / 1)) (own_at_least k) ∙ ap pos (by_one 1) in
      let P : ℤ → Type 0 = λ z. pos 0 ≤ℤ weighted z (row_value count numbers bound) g (row_value count numbers row) in
      let Q : ℤ → Type 0 = λ z. pos 0 ≤ℤ weighted (pos (unsigned_abs c)) (row_value count numbers bound) z (row_value count numbers row) in
      let R : ℤ → Type 0 = λ z. pos 0 ≤ℤ weighted (pos (unsigned_abs c)) z (pos 1) (row_value count numbers row) in
      below_zero_turned (row_value count numbers row) (c *ℤ k) (pos (unsigned_abs c) *ℤ (pos 0 -ℤ k)) (turned (pos (unsigned_abs c)) c k (negative_abs c below.negative))
      (subst R (at_least_value k) (subst Q is_g (subst P is_f (sum_holds bound row f g stands below.stands cancelling)))) (fails_below row k below.fails)
    where
      one : (z : ℤ) → pos 0 <ℤ pos 1
      one z = omega (arith, ints)

-- the node is one of the variables
node_from : (count low : ℕ) (rows : List Row) (variables : List ℕ) (levels : List (List Row)) (n : ℕ) (k : ℤ) → IsBetween count rows variables levels n k → Eliminates low rows variables levels → low ≤ n
node_from count low rows (m ∷ variables) (after ∷ levels) n k (definitions.IsBetween.here numbers so_far between) e = (variable_of e).at_least
node_from count low rows (m ∷ variables) (after ∷ levels) n k (definitions.IsBetween.later h) e =
    let first = (variable_of e).at_least in
    let rest = node_from count (suc m) after variables levels n k h (others_of e) in
    omega (arith, first, rest)
node_from count low rows [] [] n k h e = elim h [ ]
node_from count low rows [] (after ∷ levels) n k h e = elim h [ ]
node_from count low rows (m ∷ variables) [] n k h e = elim h [ ]

-- a row of a later variable stands in the next level too
other_zero : (m n : ℕ) (c : ℤ) → m < n → cond (nat_eq m n) c (pos 0) ≡ pos 0
other_zero m n c less = ap (λ t. cond t c (pos 0)) (less_unequal m n less)

pub at_most_new : (count low : ℕ) (rows : List Row) (variables : List ℕ) (levels : List (List Row)) (n : ℕ) (k : ℤ) → IsBetween count rows variables levels n k → IsChain count low rows variables levels → Stands (at_most_row n k) rows → ⊥
at_most_new count low rows (m ∷ variables) (after ∷ levels) n k (definitions.IsBetween.here numbers so_far between) chain stands = no_at_most count low m rows after variables levels chain numbers so_far k between.above stands
at_most_new count low rows (m ∷ variables) (after ∷ levels) n k (definitions.IsBetween.later h) chain stands =
    let less = node_from count (suc m) after variables levels n k h (others_of chain.eliminates) in
    at_most_new count (suc m) after variables levels n k h (chain_on chain) ((level_of chain.eliminates).all (at_most_row n k) (kept stands (other_zero m n (negsuc 0) (omega (arith, less)))))
at_most_new count low rows [] [] n k h chain stands = elim h [ ]
at_most_new count low rows [] (after ∷ levels) n k h chain stands = elim h [ ]
at_most_new count low rows (m ∷ variables) [] n k h chain stands = elim h [ ]

pub at_least_new : (count low : ℕ) (rows : List Row) (variables : List ℕ) (levels : List (List Row)) (n : ℕ) (k : ℤ) → IsBetween count rows variables levels n k → IsChain count low rows variables levels → Stands (at_least_row n (k +ℤ pos 1)) rows → ⊥
at_least_new count low rows (m ∷ variables) (after ∷ levels) n k (definitions.IsBetween.here numbers so_far between) chain stands = no_at_least count low m rows after variables levels chain numbers so_far (k +ℤ pos 1) between.below stands
at_least_new count low rows (m ∷ variables) (after ∷ levels) n k (definitions.IsBetween.later h) chain stands =
    let less = node_from count (suc m) after variables levels n k h (others_of chain.eliminates) in
    at_least_new count (suc m) after variables levels n k h (chain_on chain) ((level_of chain.eliminates).all (at_least_row n (k +ℤ pos 1)) (kept stands (other_zero m n (pos 1) (omega (arith, less)))))
at_least_new count low rows [] [] n k h chain stands = elim h [ ]
at_least_new count low rows [] (after ∷ levels) n k h chain stands = elim h [ ]
at_least_new count low rows (m ∷ variables) [] n k h chain stands = elim h [ ]
