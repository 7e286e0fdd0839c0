-- Entries whose coefficients, or so many times them, have 128 bits.
use Rattle.std.proofs.Common.{◌≡◌, ℕ, suc, ◌+◌, ◌<◌, ◌≤◌, ℤ, pos, negsuc, ◌*ℤ◌, Bool, true, false, cond, nat_eq, map, List, [], ◌∷◌, ◌++◌, drop, length, get_or, add-one, refl, sym, ap, subst, ◌∙◌, arith}
use Rattle.std.proofs.Math.Nat.{div-le_self}
use Rattle.std.proofs.Math.Seq.{drop-cons}
use Rattle.std.proofs.lemmas.Int.{ints}
use Rattle.std.proofs.lemmas.List.{drop_all}
use Rattle.std.specs.Bool.{MatchBool}
use Rattle.df_row.specs.Row.{fits}
use Rattle.df_row.specs.RowView.{IsNarrow}
use Rattle.df_row.specs.Linear.{quotient}
use Rattle.df_level.specs.Entries.{coefficient_of, ascends, AreNarrow, HaveMultiples, LackMultiple}
use Rattle.df_level.specs.Row.{entries_row, IsWide, at_node}
use Rattle.df_level.specs.Division.{quotient_entry}
use Rattle.df_level.specs.Way.{multiple_row}
use Rattle.df_level.specs.Merge.{IsSum}
use Rattle.std.proofs.lemmas.Bool.Decides.{Decides-int_eq}
use Rattle.std.specs.Ordering.{int_eq}
use Rattle.std.proofs.lemmas.Bool.{le-leb}
use Rattle.df_level.proofs.Rows.{first_coefficient, after_first}
use Rattle.df_level.specs.Entries.{has_coefficient}
use Rattle.df_level.proofs.Ascending.{IsFrom, from_test}
use Rattle.df_level.proofs.Contents.{quotient_coefficient}

-- What holds of the coefficients that are left holds of all.
pub record IsTesting (P : ℤ → Type 0) (all left : List (ℕ × ℤ)) : Type 0 where
  pub low : ℕ
  pub from : IsFrom low left
  pub same : (n : ℕ) → low ≤ n → coefficient_of left n ≡ coefficient_of all n
  pub goes : ((n : ℕ) → P (coefficient_of left n)) → (n : ℕ) → P (coefficient_of all n)

module _ (P : ℤ → Type 0) (all : List (ℕ × ℤ)) where
  pub testing_begins : ascends 0 all ≡ true → IsTesting P all all
  testing_begins e = record { low = 0; from = from_test 0 all e; same = λ n h. refl; goes = λ h. h }

  pub testing_goes : (m : ℕ) (c : ℤ) (es : List (ℕ × ℤ)) → IsTesting P all ((m, c) ∷ es) → P c → IsTesting P all es
  testing_goes m c es h here = record { low = suc m; from = h.from.2; same = λ n less. sym (after_first m c es n less) ∙ h.same n (let low = h.from.0 in omega (arith)); goes = λ each. h.goes (λ n. by n each (nat_eq n m) refl) }
    where
      by : (n : ℕ) → ((n : ℕ) → P (coefficient_of es n)) → (t : Bool) → nat_eq n m ≡ t → P (coefficient_of ((m, c) ∷ es) n)
      by n each true e = let Q : Bool → Type 0 = λ t. P (cond t c (coefficient_of es n)) in subst Q (sym e) here
      by n each false e = let Q : Bool → Type 0 = λ t. P (cond t c (coefficient_of es n)) in subst Q (sym e) (each n)

  pub testing_at : (m : ℕ) (c : ℤ) (es : List (ℕ × ℤ)) → IsTesting P all ((m, c) ∷ es) → coefficient_of all m ≡ c
  testing_at m c es h = sym (h.same m h.from.0) ∙ first_coefficient m c es

  -- by the place of the entry
  pub testing_next : (i : ℕ) → IsTesting P all (drop i all) → i < length all → P (get_or all i (0, pos 0)).1 → IsTesting P all (drop (i + 1) all)
  testing_next i h less here =
      let e = get_or all i (0, pos 0) in
      let R : List (ℕ × ℤ) → Type 0 = λ left. IsTesting P all left in
      let S : ℕ → Type 0 = λ j. IsTesting P all (drop j all) in
      subst S (sym (add-one i)) (testing_goes e.0 e.1 (drop (suc i) all) (subst R (drop-cons all i (0, pos 0) less) h) here)

  pub testing_place : (i : ℕ) → IsTesting P all (drop i all) → i < length all → coefficient_of all (get_or all i (0, pos 0)).0 ≡ (get_or all i (0, pos 0)).1
  testing_place i h less =
      let e = get_or all i (0, pos 0) in
      let R : List (ℕ × ℤ) → Type 0 = λ left. IsTesting P all left in
      testing_at e.0 e.1 (drop (suc i) all) (subst R (drop-cons all i (0, pos 0) less) h)

  pub testing_ends : (i : ℕ) → IsTesting P all (drop i all) → length all ≤ i → P (pos 0) → (n : ℕ) → P (coefficient_of all n)
  testing_ends i h past none = let R : List (ℕ × ℤ) → Type 0 = λ left. IsTesting P all left in (subst R (drop_all i all past) h).goes (λ n. none)

-- so many times the coefficients
abbrev pub IsFitting : ℤ → ℤ → Type 0
IsFitting f z = fits (f *ℤ z) ≡ true

times_none : (f z : ℤ) → z ≡ pos 0 → f *ℤ z ≡ pos 0
times_none f z e = ap (λ y. f *ℤ y) e ∙ omega (arith, ints)

module _ (f : ℤ) (all : List (ℕ × ℤ)) where
  pub multiples_next : (i : ℕ) (c : ℤ) (t : Bool) → IsTesting (IsFitting f) all (drop i all) → i < length all → c ≡ (get_or all i (0, pos 0)).1 → t ≡ fits (f *ℤ c) → t ≡ true → IsTesting (IsFitting f) all (drop (i + 1) all)
  multiples_next i c t h less is e passes = testing_next (IsFitting f) all i h less (ap (λ z. fits (f *ℤ z)) (sym is) ∙ sym e ∙ passes)

  pub multiple_lacks : (i : ℕ) (c : ℤ) (t : Bool) → IsTesting (IsFitting f) all (drop i all) → i < length all → c ≡ (get_or all i (0, pos 0)).1 → t ≡ fits (f *ℤ c) → t ≡ false → LackMultiple f all
  multiple_lacks i c t h less is e fails = record { node = (get_or all i (0, pos 0)).0; wide = ap (λ z. fits (f *ℤ z)) (testing_place (IsFitting f) all i h less ∙ sym is) ∙ sym e ∙ fails }

  pub multiples_end : (i : ℕ) → IsTesting (IsFitting f) all (drop i all) → length all ≤ i → HaveMultiples f all
  multiples_end i h past = record { each = testing_ends (IsFitting f) all i h past (ap fits (times_none f (pos 0) refl)) }

-- of a row
pub row_has_multiple : (f k : ℤ) (es : List (ℕ × ℤ)) (v : List (ℕ × ℤ)) (b : Bool) → MatchBool b (HaveMultiples f v) (LackMultiple f v) → v ≡ es → fits (f *ℤ k) ≡ true → MatchBool b (IsNarrow (multiple_row f (entries_row es k))) (IsWide (multiple_row f (entries_row es k)))
row_has_multiple f k es v true h e fitting = let P : List (ℕ × ℤ) → Type 0 = λ x. HaveMultiples f x in record { coefficients = (subst P e h).each; constant = fitting }
row_has_multiple f k es v false h e fitting = let P : List (ℕ × ℤ) → Type 0 = λ x. LackMultiple f x in let lacks = subst P e h in at_node lacks.node lacks.wide

-- quotients
pub quotient_fits : (d : ℕ) (z : ℤ) → fits z ≡ true → fits (quotient z (pos d)) ≡ true
quotient_fits d (pos n) h = let less = div-le_self n d in grind (arith, ints)
quotient_fits d (negsuc n) h = let less = div-le_self n d in grind (arith, ints)

pub quotients_narrow : (d : ℕ) (es quotients : List (ℕ × ℤ)) → quotients ≡ map (quotient_entry d) es → AreNarrow es → AreNarrow quotients
quotients_narrow d es quotients e h = record { each = λ n. ap (λ l. fits (coefficient_of l n)) e ∙ ap fits (quotient_coefficient d es n) ∙ quotient_fits d (coefficient_of es n) (h.each n) }

-- sums
pub sum_narrow : (f g : ℤ) (left right sum : List (ℕ × ℤ)) → IsSum f left g right sum → AreNarrow sum
sum_narrow f g left right sum h = record { each = λ n. ap fits (h.each n) ∙ h.fitting n }

-- entries that are read
pub narrow_none : AreNarrow []
narrow_none = record { each = λ n. refl }

pub narrow_next : (i : ℕ) (c : ℤ) (all : List (ℕ × ℤ)) → (AreNarrow (drop i all) → AreNarrow all) → i < length all → c ≡ (get_or all i (0, pos 0)).1 → fits c ≡ true → AreNarrow (drop (i + 1) all) → AreNarrow all
narrow_next i c all h less is fitting others =
    let e = get_or all i (0, pos 0) in
    let P : List (ℕ × ℤ) → Type 0 = λ left. AreNarrow left in
    let Q : ℕ → Type 0 = λ j. AreNarrow (drop j all) in
    let later : AreNarrow (drop (suc i) all) = subst Q (add-one i) others in
    h (subst P (sym (drop-cons all i (0, pos 0) less)) (record { each = λ n. by n (nat_eq n e.0) refl later }))
  where
    by : (n : ℕ) (t : Bool) → nat_eq n (get_or all i (0, pos 0)).0 ≡ t → AreNarrow (drop (suc i) all) → fits (coefficient_of (get_or all i (0, pos 0) ∷ drop (suc i) all) n) ≡ true
    by n true e later = let Q : Bool → Type 0 = λ t. fits (cond t (get_or all i (0, pos 0)).1 (coefficient_of (drop (suc i) all) n)) ≡ true in subst Q (sym e) (ap fits (sym is) ∙ fitting)
    by n false e later = let Q : Bool → Type 0 = λ t. fits (cond t (get_or all i (0, pos 0)).1 (coefficient_of (drop (suc i) all) n)) ≡ true in subst Q (sym e) (later.each n)

pub narrow_ends : (i : ℕ) (all : List (ℕ × ℤ)) → (AreNarrow (drop i all) → AreNarrow all) → length all ≤ i → AreNarrow all
narrow_ends i all h past = let P : List (ℕ × ℤ) → Type 0 = λ left. AreNarrow left in h (subst P (sym (drop_all i all past)) narrow_none)

-- one entry more
coefficient_more : (entries : List (ℕ × ℤ)) (k : ℕ) (v : ℤ) (n : ℕ) → (fits (coefficient_of entries n) ≡ true) → fits v ≡ true → fits (coefficient_of (entries ++ (k, v) ∷ []) n) ≡ true
coefficient_more [] k v n h fitting = by (nat_eq n k) refl
  where
    by : (t : Bool) → nat_eq n k ≡ t → fits (cond (nat_eq n k) v (pos 0)) ≡ true
    by true e = let Q : Bool → Type 0 = λ t. fits (cond t v (pos 0)) ≡ true in subst Q (sym e) fitting
    by false e = let Q : Bool → Type 0 = λ t. fits (cond t v (pos 0)) ≡ true in subst Q (sym e) refl
coefficient_more (e ∷ entries) k v n h fitting = by (nat_eq n e.0) refl h (coefficient_more entries k v n)
  where
    by : (t : Bool) → nat_eq n e.0 ≡ t → fits (cond (nat_eq n e.0) e.1 (coefficient_of entries n)) ≡ true → (fits (coefficient_of entries n) ≡ true → fits v ≡ true → fits (coefficient_of (entries ++ (k, v) ∷ []) n) ≡ true) → fits (cond (nat_eq n e.0) e.1 (coefficient_of (entries ++ (k, v) ∷ []) n)) ≡ true
    by true is h again = let Q : Bool → Type 0 = λ t. fits (cond t e.1 (coefficient_of entries n)) ≡ true in let R : Bool → Type 0 = λ t. fits (cond t e.1 (coefficient_of (entries ++ (k, v) ∷ []) n)) ≡ true in subst R (sym is) (subst Q is h)
    by false is h again = let Q : Bool → Type 0 = λ t. fits (cond t e.1 (coefficient_of entries n)) ≡ true in let R : Bool → Type 0 = λ t. fits (cond t e.1 (coefficient_of (entries ++ (k, v) ∷ []) n)) ≡ true in subst R (sym is) (again (subst Q is h) fitting)

pub narrow_more : (entries new : List (ℕ × ℤ)) (k : ℕ) (v : ℤ) → fits v ≡ true → new ≡ entries ++ (k, v) ∷ [] → AreNarrow entries → AreNarrow new
narrow_more entries new k v fitting is h = let P : List (ℕ × ℤ) → Type 0 = λ l. AreNarrow l in subst P (sym is) (record { each = λ n. coefficient_more entries k v n (h.each n) fitting })

has_some : (c : ℤ) → (c ≡ pos 0 → ⊥) → has_coefficient c ≡ true
has_some c some = by (int_eq c (pos 0)) refl
  where
    by : (t : Bool) → int_eq c (pos 0) ≡ t → has_coefficient c ≡ true
    by true e = absurd (some ((Decides-int_eq c (pos 0)).0 e))
    by false e = rw e refl

pub order_next : (low i : ℕ) (all : List (ℕ × ℤ)) → let e = get_or all i (0, pos 0) in ascends low (drop i all) ≡ ascends 0 all → i < length all → low ≤ e.0 → (e.1 ≡ pos 0 → ⊥) → ascends (e.0 + 1) (drop (i + 1) all) ≡ ascends 0 all
order_next low i all h less le some =
    let e = get_or all i (0, pos 0) in
    let step : ascends low (e ∷ drop (suc i) all) ≡ ascends (suc e.0) (drop (suc i) all) = rw (le-leb low e.0 le, has_some e.1 some) refl in
    ap (λ k. ascends k (drop (i + 1) all)) (add-one e.0) ∙ ap (λ k. ascends (suc e.0) (drop k all)) (add-one i) ∙ sym step ∙ ap (ascends low) (sym (drop-cons all i (0, pos 0) less)) ∙ h
