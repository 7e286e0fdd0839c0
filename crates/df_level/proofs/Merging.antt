-- The entries of a sum, one node after the other.
use Rattle.std.proofs.Common.{◌≡◌, ℕ, suc, ◌+◌, length, ◌<◌, ◌≤◌, ℤ, pos, ◌+ℤ◌, Bool, true, false, cond, nat_eq, List, [], ◌∷◌, Option, Some, None, refl, sym, ap, ◌∙◌, arith}
use Rattle.std.proofs.lemmas.Int.{ints}
use Rattle.std.proofs.lemmas.Option.{none-some}
use Rattle.std.proofs.lemmas.Bool.{eqb-true, eqb-false}
use Rattle.df_row.proofs.RowNarrow.{unfit}
use Rattle.df_row.specs.Row.{fits}
use Rattle.df_row.specs.RowView.{narrow}
use Rattle.df_level.specs.Exact.{weighted}
use Rattle.df_level.specs.Entries.{coefficient_of, ascends}
use Rattle.df_level.specs.Merge.{lowest, first_coefficient, others_after, with_entry, IsSum}
use Rattle.df_level.proofs.Ascending.{both_shorter, IsFrom, IsBetween, from_test, to_test, none_below, none_from, from_lowest, first_is, others_from, others_coefficient, with_entry_between, with_entry_coefficient}

-- what both rows give at a node
abbrev pub total : ℤ → List (ℕ × ℤ) → ℤ → List (ℕ × ℤ) → ℕ → ℤ
total f left g right n = weighted f (coefficient_of left n) g (coefficient_of right n)

-- the sum so far, and what the entries that are left give
pub record IsMerging (f : ℤ) (left : List (ℕ × ℤ)) (g : ℤ) (right a b sum : List (ℕ × ℤ)) : Type 0 where
  pub next : ℕ
  pub so_far : IsBetween 0 next sum
  pub left_from : IsFrom next a
  pub right_from : IsFrom next b
  pub each : (n : ℕ) → total f left g right n ≡ coefficient_of sum n +ℤ total f a g b n
  pub fitting : (n : ℕ) → fits (coefficient_of sum n) ≡ true

zero_and : (z : ℤ) → z ≡ pos 0 +ℤ z
zero_and z = omega (arith, ints)

and_zeros : (f g z : ℤ) → z +ℤ weighted f (pos 0) g (pos 0) ≡ z
and_zeros f g z = omega (arith, ints)

-- a number that fits
pub fits_of : (z s : ℤ) → narrow z ≡ Some s → (fits z ≡ true) × (z ≡ s)
fits_of z s e = by (fits z) refl
  where
    by : (v : Bool) → fits z ≡ v → (fits z ≡ true) × (z ≡ s)
    by true v = let q : Some z ≡ Some s = sym (ap (λ t. cond t (Some z) None) v) ∙ e in (v, cc)
    by false v = absurd (none-some s (sym (ap (λ t. cond t (Some z) None) v) ∙ e))

module _ (f : ℤ) (left : List (ℕ × ℤ)) (g : ℤ) (right : List (ℕ × ℤ)) where
  pub merging_begins : ascends 0 left ≡ true → ascends 0 right ≡ true → IsMerging f left g right left right []
  merging_begins l r = record { next = 0; so_far = omega arith; left_from = from_test 0 left l; right_from = from_test 0 right r; each = λ n. zero_and (total f left g right n); fitting = λ n. refl }

  -- what the lowest node has in all
  whole_at : (a b sum : List (ℕ × ℤ)) (n : ℕ) → IsMerging f left g right a b sum → lowest a b ≡ Some n → total f left g right n ≡ weighted f (first_coefficient n a) g (first_coefficient n b)
  whole_at a b sum n m e =
      let low = from_lowest m.next n a b e m.left_from m.right_from in
      m.each n ∙ ap (λ z. z +ℤ total f a g b n) (none_from 0 m.next sum n m.so_far low.0) ∙ sym (zero_and (total f a g b n)) ∙ ap (λ z. weighted f z g (coefficient_of b n)) (sym (first_is n a low.1)) ∙ ap (λ z. weighted f (first_coefficient n a) g z) (sym (first_is n b low.2))

  pub merging_fails : (a b sum : List (ℕ × ℤ)) (n : ℕ) → IsMerging f left g right a b sum → lowest a b ≡ Some n → narrow (weighted f (first_coefficient n a) g (first_coefficient n b)) ≡ None → (k : ℕ) × (fits (total f left g right k) ≡ false)
  merging_fails a b sum n m e none = (n, ap fits (whole_at a b sum n m e) ∙ unfit (weighted f (first_coefficient n a) g (first_coefficient n b)) none)

  pub merging_goes : (a b sum : List (ℕ × ℤ)) (n : ℕ) (s : ℤ) → IsMerging f left g right a b sum → lowest a b ≡ Some n → narrow (weighted f (first_coefficient n a) g (first_coefficient n b)) ≡ Some s → IsMerging f left g right (others_after n a) (others_after n b) (with_entry sum n s)
  merging_goes a b sum n s m e some = record { next = suc n; so_far = with_entry_between m.next n s sum m.so_far low.0; left_from = others_from n a low.1; right_from = others_from n b low.2; each = each; fitting = fitting }
    where
      low : (m.next ≤ n) × IsFrom n a × IsFrom n b
      low = from_lowest m.next n a b e m.left_from m.right_from

      is : (fits (weighted f (first_coefficient n a) g (first_coefficient n b)) ≡ true) × (weighted f (first_coefficient n a) g (first_coefficient n b) ≡ s)
      is = fits_of (weighted f (first_coefficient n a) g (first_coefficient n b)) s some

      put : (k : ℕ) → coefficient_of (with_entry sum n s) k ≡ cond (nat_eq k n) s (coefficient_of sum k)
      put k = with_entry_coefficient m.next n s sum k m.so_far low.0

      no_more : (es : List (ℕ × ℤ)) (k : ℕ) → IsFrom n es → k ≡ n → coefficient_of (others_after n es) k ≡ pos 0
      no_more es k h same = none_below (suc n) (others_after n es) k (others_from n es h) (omega arith)

      each : (k : ℕ) → total f left g right k ≡ coefficient_of (with_entry sum n s) k +ℤ total f (others_after n a) g (others_after n b) k
      each k = by (nat_eq k n) refl
        where
          by : (v : Bool) → nat_eq k n ≡ v → total f left g right k ≡ coefficient_of (with_entry sum n s) k +ℤ total f (others_after n a) g (others_after n b) k
          by true v =
              let same = eqb-true k n v in
              rw (put k, v, no_more a k low.1 same, no_more b k low.2 same) (ap (total f left g right) same ∙ whole_at a b sum n m e ∙ is.1 ∙ sym (and_zeros f g s))
          by false v =
              let apart = eqb-false k n v in
              rw (put k, v, others_coefficient n a k apart, others_coefficient n b k apart) (m.each k)

      fitting : (k : ℕ) → fits (coefficient_of (with_entry sum n s) k) ≡ true
      fitting k = by (nat_eq k n) refl
        where
          by : (v : Bool) → nat_eq k n ≡ v → fits (coefficient_of (with_entry sum n s) k) ≡ true
          by true v = ap fits (put k ∙ ap (λ t. cond t s (coefficient_of sum k)) v ∙ sym is.1) ∙ is.0
          by false v = ap fits (put k ∙ ap (λ t. cond t s (coefficient_of sum k)) v) ∙ m.fitting k

  empties : (a b : List (ℕ × ℤ)) → lowest a b ≡ None → (a ≡ []) × (b ≡ [])
  empties [] [] e = (refl, refl)
  empties (d ∷ ds) [] e = absurd (none-some d.0 (sym e))
  empties [] (d ∷ ds) e = absurd (none-some d.0 (sym e))
  empties (c ∷ cs) (d ∷ ds) e = cc

  pub merging_ends : (a b sum : List (ℕ × ℤ)) → IsMerging f left g right a b sum → lowest a b ≡ None → IsSum f left g right sum
  merging_ends a b sum m e = record { ordered = to_test 0 m.next sum m.so_far; each = λ n. sym (is n); fitting = λ n. ap fits (is n) ∙ m.fitting n }
    where
      is : (n : ℕ) → total f left g right n ≡ coefficient_of sum n
      is n =
          let nothing = empties a b e in
          m.each n ∙ ap (λ es. coefficient_of sum n +ℤ total f es g b n) nothing.0 ∙ ap (λ es. coefficient_of sum n +ℤ total f [] g es n) nothing.1 ∙ and_zeros f g (coefficient_of sum n)

  pub merging_next : (a b sum c d more : List (ℕ × ℤ)) (n : ℕ) (s z : ℤ) → IsMerging f left g right a b sum → lowest a b ≡ Some n → narrow (weighted f (first_coefficient n a) g (first_coefficient n b)) ≡ Some s → c ≡ others_after n a → d ≡ others_after n b → more ≡ with_entry sum n z → z ≡ s → IsMerging f left g right c d more
  merging_next a b sum c d more n s z m e some p q r t = rw (p, q, r, t) (merging_goes a b sum n s m e some)

pub number_at : (f g x y a b : ℤ) (o : Option ℤ) → o ≡ narrow (weighted f x g y) → x ≡ a → y ≡ b → narrow (weighted f a g b) ≡ o
number_at f g x y a b o e p q = sym (e ∙ ap (λ z. narrow (weighted f z g y)) p ∙ ap (λ z. narrow (weighted f a g z)) q)

pub step_shorter : (a b c d : List (ℕ × ℤ)) (n : ℕ) → lowest a b ≡ Some n → c ≡ others_after n a → d ≡ others_after n b → length c + length d < length a + length b
step_shorter a b c d n e p q = rw (p, q) (both_shorter n a b e)
