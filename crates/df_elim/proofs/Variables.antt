-- The next variable, one entry and one row after the other.
use Rattle.std.proofs.Common.{◌≡◌, ◌⊎◌, ⊎_elim, inl, inr, ℕ, suc, ◌+◌, ◌<◌, ◌≤◌, min, ℤ, pos, Bool, true, false, cond, List, [], ◌∷◌, ◌++◌, drop, length, get_or, Option, Some, None, refl, sym, ap, subst, ◌∙◌, arith, add-one}
use Rattle.std.specs.Bool.{Decides}
use Rattle.std.proofs.Math.Seq.{drop-cons}
use Rattle.std.proofs.lemmas.List.{drop_all}
use Rattle.std.proofs.lemmas.Bool.{true≢false}
use Rattle.df_level.proofs.Rows.{first_coefficient, after_first}
use Rattle.df_lemmas.proofs.Numbers.{less_unequal}
use Rattle.df_row.specs.Row.{Row}
use Rattle.df_level.specs.Entries.{coefficient_of, has_coefficient, ascends}
use Rattle.df_level.specs.Levels.{Stands}
use Rattle.df_level.specs.Elimination.{AreFree, AreFreeFrom, IsVariable}
use Rattle.df_level.proofs.Ascending.{IsFrom, from_test, none_below}
use Rattle.df_level.proofs.Sets.{stands_left, stands_last, stands_cases}
use Rattle.df_elim.specs.Elimination.{lesser_of, TellsVariable}

-- From the low node on, the coefficients are those of the entries that are left.
pub record IsPassing (low : ℕ) (all left : List (ℕ × ℤ)) : Type 0 where
  pub begin : ℕ
  pub from : IsFrom begin left
  pub same : (n : ℕ) → low ≤ n → coefficient_of left n ≡ coefficient_of all n

pub passing_begins : (low : ℕ) (all : List (ℕ × ℤ)) → ascends 0 all ≡ true → IsPassing low all all
passing_begins low all e = record { begin = 0; from = from_test 0 all e; same = λ n le. refl }

passing_goes : (low m : ℕ) (c : ℤ) (all es : List (ℕ × ℤ)) → IsPassing low all ((m, c) ∷ es) → m < low → IsPassing low all es
passing_goes low m c all es h less = record { begin = suc m; from = h.from.2; same = λ n le. sym (after_first m c es n (omega arith)) ∙ h.same n le }

module _ (low m : ℕ) (c : ℤ) (all es : List (ℕ × ℤ)) (h : IsPassing low all ((m, c) ∷ es)) (le : low ≤ m) where
  free_before : (n : ℕ) → low ≤ n → n < m → coefficient_of all n ≡ pos 0
  free_before n from less = sym (h.same n from) ∙ ap (λ t. cond t c (coefficient_of es n)) (less_unequal n m less) ∙ none_below (suc m) es n h.from.2 (omega arith)

  some_there : coefficient_of all m ≡ pos 0 → ⊥
  some_there e = true≢false (sym h.from.1 ∙ ap has_coefficient (sym (first_coefficient m c es) ∙ h.same m le ∙ e))

-- by the place of the entry
module _ (low i : ℕ) (all : List (ℕ × ℤ)) (h : IsPassing low all (drop i all)) where
  pub passing_next : i < length all → (get_or all i (0, pos 0)).0 < low → IsPassing low all (drop (i + 1) all)
  passing_next within less =
      let e = get_or all i (0, pos 0) in
      let P : List (ℕ × ℤ) → Type 0 = λ left. IsPassing low all left in
      let Q : ℕ → Type 0 = λ j. IsPassing low all (drop j all) in
      subst Q (sym (add-one i)) (passing_goes low e.0 e.1 all (drop (suc i) all) (subst P (drop-cons all i (0, pos 0) within) h) less)

  -- of one row
  module _ (row : Row) (is : coefficient_of all ≡ row.coefficient) where
    here : (r : Row) (n : ℕ) → Stands r (row ∷ []) → coefficient_of all n ≡ pos 0 → r.coefficient n ≡ pos 0
    here r n (inl e) zero = ap (λ (x : Row). x.coefficient n) e ∙ ap (λ f. f n) (sym is) ∙ zero
    here r n (inr e) zero = absurd e

    pub found : i < length all → low ≤ (get_or all i (0, pos 0)).0 → IsVariable low (get_or all i (0, pos 0)).0 (row ∷ [])
    found within le =
        let e = get_or all i (0, pos 0) in
        let P : List (ℕ × ℤ) → Type 0 = λ left. IsPassing low all left in
        let now = subst P (drop-cons all i (0, pos 0) within) h in
        record { at_least = le; free_below = λ r n there from less. here r n there (free_before low e.0 e.1 all (drop (suc i) all) now le n from less); has = record { row = row; stands = inl refl; nonzero = λ zero. some_there low e.0 e.1 all (drop (suc i) all) now le (ap (λ f. f e.0) is ∙ zero) } }

    pub passing_ends : length all ≤ i → AreFreeFrom low (row ∷ [])
    passing_ends past =
        let P : List (ℕ × ℤ) → Type 0 = λ left. IsPassing low all left in
        λ r n there from. here r n there (sym ((subst P (drop_all i all past) h).same n from))

-- one row more
module _ (low : ℕ) (rows : List Row) (r : Row) where
  free_more : (high : ℕ) → AreFree low high rows → AreFree low high (r ∷ []) → AreFree low high (rows ++ r ∷ [])
  free_more high old own row n there from less = ⊎_elim (λ k. old row n k from less) (λ e. own row n (inl e) from less) (stands_cases row r rows there)

  old_stays : (n : ℕ) → IsVariable low n rows → AreFree low n (r ∷ []) → IsVariable low n (rows ++ r ∷ [])
  old_stays n h own = record { at_least = h.at_least; free_below = free_more n h.free_below own; has = record { row = h.has.row; stands = stands_left h.has.row rows (r ∷ []) h.has.stands; nonzero = h.has.nonzero } }

  last_of : (x : Row) → Stands x (r ∷ []) → Stands x (rows ++ r ∷ [])
  last_of x (inl e) = let P : Row → Type 0 = λ y. Stands y (rows ++ r ∷ []) in subst P (sym e) (stands_last r rows)
  last_of x (inr h) = absurd h

  own_comes : (n : ℕ) → AreFree low n rows → IsVariable low n (r ∷ []) → IsVariable low n (rows ++ r ∷ [])
  own_comes n old h = record { at_least = h.at_least; free_below = free_more n old h.free_below; has = record { row = h.has.row; stands = last_of h.has.row h.has.stands; nonzero = h.has.nonzero } }

  both_come : (n m : ℕ) → IsVariable low n rows → IsVariable low m (r ∷ []) → IsVariable low (min n m) (rows ++ r ∷ [])
  both_come n m h k = by (sides n m)
    where
      sides : (n m : ℕ) → (n ≤ m) ⊎ (m < n)
      sides n m = grind arith

      by : (n ≤ m) ⊎ (m < n) → IsVariable low (min n m) (rows ++ r ∷ [])
      by (inl le) = let P : ℕ → Type 0 = λ x. IsVariable low x (rows ++ r ∷ []) in let e : n ≡ min n m = omega arith in subst P e (old_stays n h (λ x i there from less. k.free_below x i there from (omega arith)))
      by (inr less) = let P : ℕ → Type 0 = λ x. IsVariable low x (rows ++ r ∷ []) in let e : m ≡ min n m = omega arith in subst P e (own_comes m (λ x i there from le. h.free_below x i there from (omega arith)) k)

  with_one : (a b : Option ℕ) → TellsVariable low rows a → TellsVariable low (r ∷ []) b → TellsVariable low (rows ++ r ∷ []) (lesser_of a b)
  with_one (Some n) (Some m) h k = both_come n m h k
  with_one (Some n) None h k = old_stays n h (λ row i there from less. k row i there from)
  with_one None (Some m) h k = own_comes m (λ row i there from less. h row i there from) k
  with_one None None h k = λ row n there from. ⊎_elim (λ old. h row n old from) (λ e. k row n (inl e) from) (stands_cases row r rows there)

pub tells_more : (low : ℕ) (rows more : List Row) (r : Row) (a b found : Option ℕ) → TellsVariable low rows a → TellsVariable low (r ∷ []) b → found ≡ lesser_of a b → more ≡ rows ++ r ∷ [] → TellsVariable low more found
tells_more low rows more r a b found h k is e =
    let P : Option ℕ → Type 0 = λ o. TellsVariable low (rows ++ r ∷ []) o in
    let Q : List Row → Type 0 = λ l. TellsVariable low l found in
    subst Q (sym e) (subst P (sym is) (with_one low rows r a b h k))

pub tells_none : (low : ℕ) → TellsVariable low [] None
tells_none low = λ row n there from. absurd there

pub tells_all : (low : ℕ) (rows taken : List Row) (found : Option ℕ) → TellsVariable low taken found → taken ≡ rows → TellsVariable low rows found
tells_all low rows taken found h e = let P : List Row → Type 0 = λ l. TellsVariable low l found in subst P e h

pub is_before : (low n : ℕ) (b : Bool) → Decides b (low ≤ n) → b ≡ false → n < low
is_before low n b decides e = by (sides low n)
  where
    sides : (a b : ℕ) → (a ≤ b) ⊎ (b < a)
    sides a b = grind arith

    by : (low ≤ n) ⊎ (n < low) → n < low
    by (inl le) = absurd (true≢false (sym (decides.1 le) ∙ e))
    by (inr less) = less
