-- Entries whose nodes ascend.
use Rattle.std.proofs.Common.{◌≡◌, ◌⊎◌, ⊎_elim, ℕ, suc, ◌+◌, ◌<◌, ◌≤◌, ℤ, pos, Bool, true, false, cond, ◌&&◌, nat_eq, nat_le, min, List, [], ◌∷◌, ◌++◌, length, Some, refl, sym, ap, subst, ◌∙◌, arith}
use Rattle.std.proofs.lemmas.Int.{ints}
use Rattle.std.proofs.lemmas.Bool.Decides.{nat_tests}
use Rattle.std.proofs.lemmas.Bool.{eq-eqb, eqb-true, ne_eqb, and_parts, leb-true, le-leb}
use Rattle.std.proofs.lemmas.Option.{none-some, same_Some}
use Rattle.std.specs.Ordering.{int_eq}
use Rattle.df_lemmas.proofs.Numbers.{less_unequal, more_unequal}
use Rattle.df_level.specs.Entries.{coefficient_of, has_coefficient, ascends}
use Rattle.df_level.specs.Merge.{lowest, first_coefficient, others_after, with_entry}

-- the nodes ascend from at least the number
abbrev pub IsFrom : ℕ → List (ℕ × ℤ) → Type 0
IsFrom low [] = Unit
IsFrom low (e ∷ es) = (low ≤ e.0) × (has_coefficient e.1 ≡ true) × IsFrom (suc e.0) es

-- and are below another
abbrev pub IsBetween : ℕ → ℕ → List (ℕ × ℤ) → Type 0
IsBetween low high [] = low ≤ high
IsBetween low high (e ∷ es) = (low ≤ e.0) × (has_coefficient e.1 ≡ true) × IsBetween (suc e.0) high es

less_apart : (a b : ℕ) → a ≤ b → nat_eq b a ≡ false → a < b
less_apart a b h e = grind (arith, nat_tests)

pub from_test : (low : ℕ) (es : List (ℕ × ℤ)) → ascends low es ≡ true → IsFrom low es
from_test low [] e = tt
from_test low ((m, c) ∷ es) e =
    let first = and_parts (nat_le low m) (has_coefficient c && ascends (suc m) es) e in
    let second = and_parts (has_coefficient c) (ascends (suc m) es) first.1 in
    (leb-true low m first.0, second.0, from_test (suc m) es second.1)

pub to_test : (low high : ℕ) (es : List (ℕ × ℤ)) → IsBetween low high es → ascends low es ≡ true
to_test low high [] h = refl
to_test low high ((m, c) ∷ es) h = rw (le-leb low m h.0, h.1) (to_test (suc m) high es h.2)

pub from_ascends : (low : ℕ) (es : List (ℕ × ℤ)) → IsFrom low es → ascends low es ≡ true
from_ascends low [] h = refl
from_ascends low ((m, c) ∷ es) h = rw (le-leb low m h.0, h.1) (from_ascends (suc m) es h.2)

pub none_below : (low : ℕ) (es : List (ℕ × ℤ)) (n : ℕ) → IsFrom low es → n < low → coefficient_of es n ≡ pos 0
none_below low [] n h less = refl
none_below low ((m, c) ∷ es) n h less =
    let le = h.0 in
    ap (λ t. cond t c (coefficient_of es n)) (less_unequal n m (omega arith)) ∙ none_below (suc m) es n h.2 (omega arith)

raise : (low n : ℕ) (es : List (ℕ × ℤ)) (m : ℕ) (c : ℤ) → IsFrom low ((m, c) ∷ es) → n ≤ m → IsFrom n ((m, c) ∷ es)
raise low n es m c h le = (le, h.1, h.2)

-- the lowest node of two lists
pub from_lowest : (low n : ℕ) (ds es : List (ℕ × ℤ)) → lowest ds es ≡ Some n → IsFrom low ds → IsFrom low es → (low ≤ n) × IsFrom n ds × IsFrom n es
from_lowest low n [] [] e left right = absurd (none-some n e)
from_lowest low n ((m, c) ∷ ds) [] e left right = let q = same_Some m n e in let le = left.0 in (omega arith, raise low n ds m c left (omega arith), tt)
from_lowest low n [] ((m, c) ∷ es) e left right = let q = same_Some m n e in let le = right.0 in (omega arith, tt, raise low n es m c right (omega arith))
from_lowest low n ((m, c) ∷ ds) ((k, d) ∷ es) e left right =
    let q = same_Some (min m k) n e in
    let le = left.0 in
    let more = right.0 in
    (omega arith, raise low n ds m c left (omega arith), raise low n es k d right (omega arith))

-- the first entry is the node's, or the node has none
pub first_is : (n : ℕ) (es : List (ℕ × ℤ)) → IsFrom n es → first_coefficient n es ≡ coefficient_of es n
first_is n [] h = refl
first_is n ((m, c) ∷ es) h = by (nat_eq m n) refl
  where
    by : (v : Bool) → nat_eq m n ≡ v → cond (nat_eq m n) c (pos 0) ≡ coefficient_of ((m, c) ∷ es) n
    by true v = ap (λ t. cond t c (pos 0)) v ∙ sym (ap (λ t. cond t c (coefficient_of es n)) (eq-eqb n m (sym (eqb-true m n v))))
    by false v =
        let less = less_apart n m h.0 v in
        ap (λ t. cond t c (pos 0)) v ∙ sym (ap (λ t. cond t c (coefficient_of es n)) (less_unequal n m less) ∙ none_below (suc m) es n h.2 (omega arith))

pub others_from : (n : ℕ) (es : List (ℕ × ℤ)) → IsFrom n es → IsFrom (suc n) (others_after n es)
others_from n [] h = tt
others_from n ((m, c) ∷ es) h = by (nat_eq m n) refl
  where
    by : (v : Bool) → nat_eq m n ≡ v → IsFrom (suc n) (cond (nat_eq m n) es ((m, c) ∷ es))
    by true v =
        let P : Bool → Type 0 = λ t. IsFrom (suc n) (cond t es ((m, c) ∷ es)) in
        let Q : ℕ → Type 0 = λ k. IsFrom (suc k) es in
        subst P (sym v) (subst Q (eqb-true m n v) h.2)
    by false v =
        let P : Bool → Type 0 = λ t. IsFrom (suc n) (cond t es ((m, c) ∷ es)) in
        let less = less_apart n m h.0 v in
        subst P (sym v) (omega arith, h.1, h.2)

pub others_coefficient : (n : ℕ) (es : List (ℕ × ℤ)) (k : ℕ) → (k ≡ n → ⊥) → coefficient_of (others_after n es) k ≡ coefficient_of es k
others_coefficient n [] k apart = refl
others_coefficient n ((m, c) ∷ es) k apart = by (nat_eq m n) refl
  where
    by : (v : Bool) → nat_eq m n ≡ v → coefficient_of (cond (nat_eq m n) es ((m, c) ∷ es)) k ≡ coefficient_of ((m, c) ∷ es) k
    by true v = ap (λ t. coefficient_of (cond t es ((m, c) ∷ es)) k) v ∙ sym (ap (λ t. cond t c (coefficient_of es k)) (ne_eqb k m (λ e. apart (e ∙ eqb-true m n v))))
    by false v = ap (λ t. coefficient_of (cond t es ((m, c) ∷ es)) k) v

shorter : (n : ℕ) (es : List (ℕ × ℤ)) → length (others_after n es) ≤ length es
shorter n [] = omega arith
shorter n ((m, c) ∷ es) = by (nat_eq m n) refl
  where
    by : (v : Bool) → nat_eq m n ≡ v → length (cond (nat_eq m n) es ((m, c) ∷ es)) ≤ length ((m, c) ∷ es)
    by true v = rw v (omega arith)
    by false v = rw v (omega arith)

one_shorter : (n : ℕ) (m : ℕ) (c : ℤ) (es : List (ℕ × ℤ)) → m ≡ n → length (others_after n ((m, c) ∷ es)) < length ((m, c) ∷ es)
one_shorter n m c es e = rw (eq-eqb m n e) (omega arith)

pub both_shorter : (n : ℕ) (ds es : List (ℕ × ℤ)) → lowest ds es ≡ Some n → length (others_after n ds) + length (others_after n es) < length ds + length es
both_shorter n [] [] e = absurd (none-some n e)
both_shorter n ((m, c) ∷ ds) [] e = let s = one_shorter n m c ds (same_Some m n e) in omega (arith, s)
both_shorter n [] ((m, c) ∷ es) e = let s = one_shorter n m c es (same_Some m n e) in omega (arith, s)
both_shorter n ((m, c) ∷ ds) ((k, d) ∷ es) e = ⊎_elim first second (sides m k n (same_Some (min m k) n e))
  where
    sides : (a b n : ℕ) → min a b ≡ n → (a ≡ n) ⊎ (b ≡ n)
    sides a b n e = grind arith

    first : m ≡ n → length (others_after n ((m, c) ∷ ds)) + length (others_after n ((k, d) ∷ es)) < length ((m, c) ∷ ds) + length ((k, d) ∷ es)
    first same = let s = one_shorter n m c ds same in let t = shorter n ((k, d) ∷ es) in omega (arith, s, t)

    second : k ≡ n → length (others_after n ((m, c) ∷ ds)) + length (others_after n ((k, d) ∷ es)) < length ((m, c) ∷ ds) + length ((k, d) ∷ es)
    second same = let s = shorter n ((m, c) ∷ ds) in let t = one_shorter n k d es same in omega (arith, s, t)

-- entries at the end
pub in_order : (low high : ℕ) (es : List (ℕ × ℤ)) → IsBetween low high es → low ≤ high
in_order low high [] h = h
in_order low high ((m, c) ∷ es) h = let le = h.0 in let rest = in_order (suc m) high es h.2 in omega arith

pub none_from : (low high : ℕ) (es : List (ℕ × ℤ)) (n : ℕ) → IsBetween low high es → high ≤ n → coefficient_of es n ≡ pos 0
none_from low high [] n h le = refl
none_from low high ((m, c) ∷ es) n h le =
    let rest = in_order (suc m) high es h.2 in
    ap (λ t. cond t c (coefficient_of es n)) (more_unequal n m (omega arith)) ∙ none_from (suc m) high es n h.2 le

widen : (low high more : ℕ) (es : List (ℕ × ℤ)) → IsBetween low high es → high ≤ more → IsBetween low more es
widen low high more [] h le = omega arith
widen low high more ((m, c) ∷ es) h le = (h.0, h.1, widen (suc m) high more es h.2 le)

last : (low high m : ℕ) (c : ℤ) (es : List (ℕ × ℤ)) → IsBetween low high es → high ≤ m → has_coefficient c ≡ true → IsBetween low (suc m) (es ++ (m, c) ∷ [])
last low high m c [] h le has = (omega arith, has, omega arith)
last low high m c ((k, d) ∷ es) h le has = (h.0, h.1, last (suc k) high m c es h.2 le has)

last_coefficient : (low high m : ℕ) (c : ℤ) (es : List (ℕ × ℤ)) (n : ℕ) → IsBetween low high es → high ≤ m → coefficient_of (es ++ (m, c) ∷ []) n ≡ cond (nat_eq n m) c (coefficient_of es n)
last_coefficient low high m c [] n h le = refl
last_coefficient low high m c ((k, d) ∷ es) n h le = by (nat_eq n k) refl (last_coefficient (suc k) high m c es n h.2 le)
  where
    by : (v : Bool) → nat_eq n k ≡ v → coefficient_of (es ++ (m, c) ∷ []) n ≡ cond (nat_eq n m) c (coefficient_of es n) → cond (nat_eq n k) d (coefficient_of (es ++ (m, c) ∷ []) n) ≡ cond (nat_eq n m) c (cond (nat_eq n k) d (coefficient_of es n))
    by true v then =
        let is = eqb-true n k v in
        let rest = in_order (suc k) high es h.2 in
        rw (v, less_unequal n m (omega arith)) refl
    by false v then = rw v then

pub with_entry_between : (high n : ℕ) (c : ℤ) (es : List (ℕ × ℤ)) → IsBetween 0 high es → high ≤ n → IsBetween 0 (suc n) (with_entry es n c)
with_entry_between high n c es h le = by (int_eq c (pos 0)) refl
  where
    by : (v : Bool) → int_eq c (pos 0) ≡ v → IsBetween 0 (suc n) (cond (int_eq c (pos 0)) es (es ++ (n, c) ∷ []))
    by true v =
        let P : Bool → Type 0 = λ t. IsBetween 0 (suc n) (cond t es (es ++ (n, c) ∷ [])) in
        subst P (sym v) (widen 0 high (suc n) es h (omega arith))
    by false v =
        let P : Bool → Type 0 = λ t. IsBetween 0 (suc n) (cond t es (es ++ (n, c) ∷ [])) in
        subst P (sym v) (last 0 high n c es h le (ap (λ t. cond t false true) v))

from_zero : (c : ℤ) → int_eq c (pos 0) ≡ true → c ≡ pos 0
from_zero c e = grind (arith, ints)

pub with_entry_coefficient : (high n : ℕ) (c : ℤ) (es : List (ℕ × ℤ)) (k : ℕ) → IsBetween 0 high es → high ≤ n → coefficient_of (with_entry es n c) k ≡ cond (nat_eq k n) c (coefficient_of es k)
with_entry_coefficient high n c es k h le = by (int_eq c (pos 0)) refl
  where
    zero_there : (w : Bool) → nat_eq k n ≡ w → c ≡ pos 0 → coefficient_of es k ≡ cond (nat_eq k n) c (coefficient_of es k)
    zero_there true w e =
        let is = eqb-true k n w in
        none_from 0 high es k h (omega arith) ∙ sym e ∙ sym (ap (λ t. cond t c (coefficient_of es k)) w)
    zero_there false w e = sym (ap (λ t. cond t c (coefficient_of es k)) w)

    by : (v : Bool) → int_eq c (pos 0) ≡ v → coefficient_of (cond (int_eq c (pos 0)) es (es ++ (n, c) ∷ [])) k ≡ cond (nat_eq k n) c (coefficient_of es k)
    by true v = ap (λ t. coefficient_of (cond t es (es ++ (n, c) ∷ [])) k) v ∙ zero_there (nat_eq k n) refl (from_zero c v)
    by false v = ap (λ t. coefficient_of (cond t es (es ++ (n, c) ∷ [])) k) v ∙ last_coefficient 0 high n c es k h le
