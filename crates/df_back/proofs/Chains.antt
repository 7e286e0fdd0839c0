-- Levels, each with a variable eliminated: what all of them keep.
use Rattle.std.proofs.Common.{◌≡◌, ◌⊎◌, ⊎_elim, ℕ, suc, ◌*◌, ◌/◌, ◌<◌, ◌≤◌, ℤ, pos, negsuc, ◌+ℤ◌, ◌*ℤ◌, ◌<ℤ◌, ◌≤ℤ◌, int_le, Bool, true, false, List, [], ◌∷◌, length, refl, sym, ap, ◌∙◌, arith}
use Rattle.std.proofs.Math.Nat.{mul-div_cancel'}
use Rattle.std.proofs.lemmas.Int.{ints}
use Rattle.std.proofs.lemmas.Bool.{true≢false, cases_lt}
use Rattle.std.specs.Int.{◌∣◌}
use Rattle.std.specs.Int.RustNames.{unsigned_abs}
use Rattle.std.specs.Ordering.{int_eq}
use Rattle.std.proofs.lemmas.Bool.Decides.{Decides-int_eq}
use Rattle.std.proofs.Math.IntN.{*ℤ-zero}
use Rattle.df_row.proofs.Sums.{no_sum}
use Rattle.df_lemmas.proofs.Integers.{from_le}
use Rattle.df_row.specs.Row.{Row}
use Rattle.df_row.specs.RowView.{IsWithin}
use Rattle.df_row.specs.Linear.{quotient}
use Rattle.df_row.specs.Value.{sum_below, row_value, row_holds}
use Rattle.df_level.specs.Row.{weighted_row}
use Rattle.df_level.specs.Exact.{weighted}
use Rattle.df_level.specs.Division.{IsDivided, divisor_of}
use Rattle.df_level.specs.Levels.{Stands, HasFalse, IsCancelling, IsMade, kept, cancelled, IsNextLevel}
use Rattle.df_level.specs.Elimination.{AreFreeFrom, IsVariable, Eliminates, ends, next, last_level}
use Rattle.df_level.proofs.Contents.{quotient_zero}
use Rattle.df_back.specs.BackSubstitution as definitions
use Rattle.df_back.specs.BackSubstitution.{with_number, BackSubstitution}
use Rattle.df_back.specs.Ranges.{AreInside}
use Rattle.df_back.proofs.Bounds.{with_other, value_without, stands_below}

-- quotients of rows
pub divided_zero : (row after : Row) (m : ℕ) → IsDivided row after → row.coefficient m ≡ pos 0 → after.coefficient m ≡ pos 0
divided_zero row after m h none =
    let d = divisor_of h.content in
    ap (λ (r : Row). r.coefficient m) h.is ∙ ap (λ z. quotient z (pos d)) none ∙ quotient_zero d

pub weighted_zero : (f a g b : ℤ) → a ≡ pos 0 → b ≡ pos 0 → weighted f a g b ≡ pos 0
weighted_zero f a g b p q = omega (arith, ints, ap (λ z. f *ℤ z) p ∙ *ℤ-zero f, ap (λ z. g *ℤ z) q ∙ *ℤ-zero g)

-- the sum cancels the node
cancels : (a b : ℤ) (d : ℕ) → pos 0 <ℤ a → b <ℤ pos 0 → d ∣ unsigned_abs a → d ∣ unsigned_abs b → weighted (pos (unsigned_abs b / d)) a (pos (unsigned_abs a / d)) b ≡ pos 0
cancels (pos a) (negsuc b) d above below p q =
    opposite a b (suc b / d) (a / d) (same (suc b / d) (a / d) d a b (mul-div_cancel' d p) (mul-div_cancel' d q))
  where
    same : (y x d a b : ℕ) → d * x ≡ a → d * y ≡ suc b → y * a ≡ x * suc b
    same y x d a b e f = rw (← e, ← f) (swap y x d)
      where
        swap : (y x d : ℕ) → y * (d * x) ≡ x * (d * y)
        swap y x d = omega arith

    opposite : (a b y x : ℕ) → y * a ≡ x * suc b → (pos y *ℤ pos a) +ℤ (pos x *ℤ negsuc b) ≡ pos 0
    opposite a b y x e = omega (arith, ints)
cancels (pos a) (pos b) d above below p q = absurd (omega (arith, ints))
cancels (negsuc a) b d above below p q = absurd (omega (arith, ints))

pub cancelled_zero : (n : ℕ) (first second : Row) (f g : ℤ) → IsCancelling n first second f g → weighted f (first.coefficient n) g (second.coefficient n) ≡ pos 0
cancelled_zero n first second f g h =
    let a = first.coefficient n in
    let b = second.coefficient n in
    ap (λ z. weighted z a g b) h.is_factor ∙ ap (λ z. weighted (pos (unsigned_abs b / h.divisor)) a z b) h.is_other_factor ∙ cancels a b h.divisor h.positive h.negative h.is_gcd.0 h.is_gcd.1

-- what is 0 in all rows is 0 in the rows made of them
pub made_zero : (n m : ℕ) (rows : List Row) (row : Row) → IsMade n rows rows row → ((r : Row) → Stands r rows → r.coefficient m ≡ pos 0) → row.coefficient m ≡ pos 0
made_zero n m rows row (kept there none) zeros = zeros row there
made_zero n m rows row (cancelled first second there other c) zeros =
    divided_zero (weighted_row c.factor first c.other_factor second) row m c.divided (weighted_zero c.factor (first.coefficient m) c.other_factor (second.coefficient m) (zeros first there) (zeros second other))

made_own : (n : ℕ) (rows : List Row) (row : Row) → IsMade n rows rows row → row.coefficient n ≡ pos 0
made_own n rows row (kept there none) = none
made_own n rows row (cancelled first second there other c) =
    divided_zero (weighted_row c.factor first c.other_factor second) row n c.divided (cancelled_zero n first second c.factor c.other_factor c.cancelling)

-- the levels from a variable on
pub record IsChain (count low : ℕ) (rows : List Row) (variables : List ℕ) (levels : List (List Row)) : Type 0 where
  pub eliminates : Eliminates low rows variables levels
  pub free : (row : Row) (m : ℕ) → Stands row rows → m < low → row.coefficient m ≡ pos 0
  pub inside : AreInside count rows
  pub stands : HasFalse (last_level rows levels) → ⊥

pub variable_of : {low n : ℕ} {rows after : List Row} {variables : List ℕ} {levels : List (List Row)} → Eliminates low rows (n ∷ variables) (after ∷ levels) → IsVariable low n rows
variable_of (next v l e) = v

pub level_of : {low n : ℕ} {rows after : List Row} {variables : List ℕ} {levels : List (List Row)} → Eliminates low rows (n ∷ variables) (after ∷ levels) → IsNextLevel n rows after
level_of (next v l e) = l

pub others_of : {low n : ℕ} {rows after : List Row} {variables : List ℕ} {levels : List (List Row)} → Eliminates low rows (n ∷ variables) (after ∷ levels) → Eliminates (suc n) after variables levels
others_of (next v l e) = e

free_of : {low : ℕ} {rows : List Row} → Eliminates low rows [] [] → AreFreeFrom low rows
free_of (ends h) = h

pub same_lengths : {low : ℕ} {rows : List Row} {variables : List ℕ} {levels : List (List Row)} → Eliminates low rows variables levels → length variables ≡ length levels
same_lengths (ends h) = refl
same_lengths (next v l e) = let same = same_lengths e in omega arith

three : (m low n : ℕ) → m < suc n → (m < low) ⊎ (((low ≤ m) × (m < n)) ⊎ (m ≡ n))
three m low n h = grind arith

pub chain_on : {count low n : ℕ} {rows after : List Row} {variables : List ℕ} {levels : List (List Row)} → IsChain count low rows (n ∷ variables) (after ∷ levels) → IsChain count (suc n) after variables levels
chain_on {count} {low} {n} {rows} {after} {variables} {levels} h = record { eliminates = others_of h.eliminates; free = free; inside = record { each = inside }; stands = h.stands }
  where
    made : (row : Row) → Stands row after → IsMade n rows rows row
    made row there = (level_of h.eliminates).each row there

    free : (row : Row) (m : ℕ) → Stands row after → m < suc n → row.coefficient m ≡ pos 0
    free row m there less = ⊎_elim (λ low_one. made_zero n m rows row (made row there) (λ r at. h.free r m at low_one)) (λ x. ⊎_elim (λ k. made_zero n m rows row (made row there) (λ r at. (variable_of h.eliminates).free_below r m at k.0 k.1)) (λ e. ap row.coefficient e ∙ made_own n rows row (made row there)) x) (three m low n less)

    inside : (row : Row) → Stands row after → IsWithin count row
    inside row there = record { zero_from = λ m past. made_zero n m rows row (made row there) (λ r at. (h.inside.each r at).zero_from m past) }

-- the next variable is below the count
pub variable_below : (count low n : ℕ) (rows after : List Row) (variables : List ℕ) (levels : List (List Row)) → IsChain count low rows (n ∷ variables) (after ∷ levels) → n < count
variable_below count low n rows after variables levels h =
    let has = (variable_of h.eliminates).has in
    stands_below count has.row n (h.inside.each has.row has.stands) has.nonzero

-- nodes before the next variable have 0
pub zero_before : (count low : ℕ) (rows : List Row) (variables : List ℕ) (levels : List (List Row)) (numbers : ℕ → ℤ) → BackSubstitution count rows variables levels numbers → Eliminates low rows variables levels → (m : ℕ) → m < low → numbers m ≡ pos 0
zero_before count low rows [] [] numbers definitions.ends e m less = refl
zero_before count low rows (n ∷ variables) (after ∷ levels) numbers (definitions.back {numbers = old} {v = v} b nearest) e m less =
    let le = (variable_of e).at_least in
    with_other old n v m (λ same. absurd (omega (arith, le, less, same))) ∙ zero_before count (suc n) after variables levels old b (others_of e) m (omega (arith, le, less))
zero_before count low rows [] (after ∷ levels) numbers b e m less = elim b [ ]
zero_before count low rows (n ∷ variables) [] numbers b e m less = elim b [ ]

-- all rows hold
module _ (count : ℕ) where
  no_sum_left : (s k : ℤ) → s ≡ pos 0 → pos 0 ≤ℤ k → pos 0 ≤ℤ (s +ℤ k)
  no_sum_left s k e h = omega (arith, ints)

  at_least_zero : (k : ℤ) → (k <ℤ pos 0 → ⊥) → pos 0 ≤ℤ k
  at_least_zero (pos k) h = omega (arith, ints)
  at_least_zero (negsuc k) h = absurd (h (omega (arith, ints)))

  last_holds : (low : ℕ) (rows : List Row) → IsChain count low rows [] [] → (row : Row) → Stands row rows → row_holds count (λ n. pos 0) row ≡ true
  last_holds low rows h row there =
      let zeros : (m : ℕ) → row.coefficient m ≡ pos 0 = λ m. ⊎_elim (λ less. h.free row m there less) (λ le. free_of h.eliminates row m there le) (cases_lt m low) in
      let constant = at_least_zero row.constant (λ below. h.stands (record { row = row; stands = there; is_false = record { zeros = zeros; below = below } })) in
      from_le (row_value count (λ n. pos 0) row) (no_sum_left (sum_below count (λ n. row.coefficient n *ℤ pos 0)) row.constant (no_sum count (λ n. row.coefficient n *ℤ pos 0) (λ n less. *ℤ-zero (row.coefficient n))) constant)

  pub all_hold : (low : ℕ) (rows : List Row) (variables : List ℕ) (levels : List (List Row)) (numbers : ℕ → ℤ) → BackSubstitution count rows variables levels numbers → IsChain count low rows variables levels → (row : Row) → Stands row rows → row_holds count numbers row ≡ true
  all_hold low rows [] [] numbers definitions.ends h row there = last_holds low rows h row there
  all_hold low rows (n ∷ variables) (after ∷ levels) numbers (definitions.back {numbers = old} {v = v} b nearest) h row there = by (int_eq (row.coefficient n) (pos 0)) refl (λ none. all_hold (suc n) after variables levels old b (chain_on h) row ((level_of h.eliminates).all row (kept there none)))
    where
      by : (t : Bool) → int_eq (row.coefficient n) (pos 0) ≡ t → (row.coefficient n ≡ pos 0 → row_holds count old row ≡ true) → row_holds count (with_number old n v) row ≡ true
      by true e rest =
          let none = (Decides-int_eq (row.coefficient n) (pos 0)).0 e in
          ap (int_le (pos 0)) (value_without count old n row v none) ∙ rest none
      by false e rest = nearest.allows.each row there (λ none. true≢false (sym ((Decides-int_eq (row.coefficient n) (pos 0)).1 none) ∙ e))
  all_hold low rows [] (after ∷ levels) numbers b h row there = elim b [ ]
  all_hold low rows (n ∷ variables) [] numbers b h row there = elim b [ ]
