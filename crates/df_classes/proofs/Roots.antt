-- There are fewer classes where two become one.
use Rattle.std.proofs.Common.{◌≡◌, ℕ, zero, suc, ◌+◌, ◌<◌, ◌≤◌, ◌==◌, ◌⊎◌, inl, inr, Bool, true, false, List, [], ◌∷◌, length, get_or, refl, sym, ap, ◌∙◌, arith, eqb-true, true≢false, if◌then◌else◌}
use Rattle.std.proofs.lemmas.Bool.{cases_eq, ne_eqb}
use Rattle.std.proofs.lemmas.List.{get_or_default}
use Rattle.df_lemmas.proofs.Numbers.{equal_self}
use Rattle.df_classes.specs.mirror.State.{State, label_of}
use Rattle.df_classes.specs.mirror.Partition.{IsPartition, renamed, IsJoined, roots, class_count}
use Rattle.df_classes.proofs.Joining.{renamed_loser, renamed_other}

abbrev one_if : Bool → ℕ
one_if b = if b then 1 else 0

head_falls : (first x y : ℕ) → (y ≡ first → x ≡ first) → one_if (y == first) ≤ one_if (x == first)
head_falls first x y goes = by (y == first) (x == first) refl refl
  where
    by : (a b : Bool) → (y == first) ≡ a → (x == first) ≡ b → one_if a ≤ one_if b
    by false false e f = omega arith
    by false true e f = omega arith
    by true true e f = omega arith
    by true false e f =
        let same : x ≡ first = goes (eqb-true y first e) in absurd (true≢false (sym (ap (λ (k : ℕ). k == first) same ∙ equal_self first) ∙ f))

abbrev Follows : ℕ → List ℕ → List ℕ → Type 0
Follows first xs ys = (i : ℕ) → i < length xs → get_or ys i 0 ≡ first + i → get_or xs i 0 ≡ first + i

follows_more : (first x y : ℕ) (xs ys : List ℕ) → Follows first (x ∷ xs) (y ∷ ys) → Follows (suc first) xs ys
follows_more first x y xs ys goes i less e =
    let same : suc first + i ≡ first + suc i = omega arith in goes (suc i) (omega (arith, less)) (e ∙ same) ∙ sym same

follows_first : (first x y : ℕ) (xs ys : List ℕ) → Follows first (x ∷ xs) (y ∷ ys) → y ≡ first → x ≡ first
follows_first first x y xs ys goes e =
    let same : first ≡ first + 0 = omega arith in goes 0 (omega arith) (e ∙ same) ∙ sym same

pub not_more : (first : ℕ) (xs ys : List ℕ) → length xs ≡ length ys → Follows first xs ys → roots first ys ≤ roots first xs
not_more first [] [] long goes = omega arith
not_more first [] (y ∷ ys) long goes = absurd (omega (arith, long))
not_more first (x ∷ xs) [] long goes = absurd (omega (arith, long))
not_more first (x ∷ xs) (y ∷ ys) long goes =
    let head = head_falls first x y (follows_first first x y xs ys goes) in
    let rest = not_more (suc first) xs ys (omega (arith, long)) (follows_more first x y xs ys goes) in omega (arith, head, rest)

pub fewer : (first : ℕ) (xs ys : List ℕ) (j : ℕ) → length xs ≡ length ys → Follows first xs ys → j < length xs → get_or xs j 0 ≡ first + j → (get_or ys j 0 ≡ first + j → ⊥) → roots first ys < roots first xs
fewer first [] ys j long goes less here gone = absurd (omega (arith, less))
fewer first (x ∷ xs) [] j long goes less here gone = absurd (omega (arith, long))
fewer first (x ∷ xs) (y ∷ ys) zero long goes less here gone =
    let same : first ≡ first + 0 = omega arith in
    let was : one_if (x == first) ≡ 1 = ap (λ (k : ℕ). one_if (k == first)) (here ∙ sym same) ∙ ap one_if (equal_self first) in
    let now : one_if (y == first) ≡ 0 = ap one_if (ne_eqb y first (λ e. gone (e ∙ same))) in
    let rest = not_more (suc first) xs ys (omega (arith, long)) (follows_more first x y xs ys goes) in omega (arith, was, now, rest)
fewer first (x ∷ xs) (y ∷ ys) (suc j) long goes less here gone =
    let same : suc first + j ≡ first + suc j = omega arith in
    let head = head_falls first x y (follows_first first x y xs ys goes) in
    let rest = fewer (suc first) xs ys j (omega (arith, long)) (follows_more first x y xs ys goes) (omega (arith, less)) (here ∙ sym same) (λ e. gone (e ∙ same)) in omega (arith, head, rest)

pub fewer_classes : (count winner loser : ℕ) (old new : State) → IsPartition count old → IsJoined count winner loser old new → (winner ≡ loser → ⊥) → loser < count → label_of old winner ≡ winner → label_of old loser ≡ loser
    → class_count new < class_count old
fewer_classes count winner loser old new was h apart less winner_own loser_own =
    fewer 0 old.labels new.labels loser long follows (omega (arith, less, was.labels_long))
    (at_zero old.labels loser (omega (arith, less, was.labels_long)) loser_own)
    (λ e. apart (sym (h.labels loser ∙ ap (renamed winner loser) loser_own ∙ renamed_loser winner loser) ∙ of_zero new.labels loser (omega (arith, less, h.partition.labels_long)) e))
  where
    long : length old.labels ≡ length new.labels
    long = was.labels_long ∙ sym h.partition.labels_long

    at_zero : (ls : List ℕ) (i : ℕ) → i < length ls → get_or ls i i ≡ i → get_or ls i 0 ≡ 0 + i
    at_zero ls i less e = let none : i ≡ 0 + i = omega arith in get_or_default ls i 0 i less ∙ e ∙ none

    of_zero : (ls : List ℕ) (i : ℕ) → i < length ls → get_or ls i 0 ≡ 0 + i → get_or ls i i ≡ i
    of_zero ls i less e = let none : 0 + i ≡ i = omega arith in get_or_default ls i i 0 less ∙ e ∙ none

    was_own : (i : ℕ) → label_of new i ≡ i → label_of old i ≡ i
    was_own i e = by (cases_eq (label_of old i) loser)
      where
        by : (label_of old i ≡ loser) ⊎ (label_of old i ≡ loser → ⊥) → label_of old i ≡ i
        by (inl same) =
            let wins : i ≡ winner = sym e ∙ h.labels i ∙ ap (renamed winner loser) same ∙ renamed_loser winner loser in
            absurd (apart (sym winner_own ∙ ap (label_of old) (sym wins) ∙ same))
        by (inr other) = sym (h.labels i ∙ renamed_other winner loser (label_of old i) other) ∙ e

    follows : Follows 0 old.labels new.labels
    follows i less e = at_zero old.labels i less (was_own i (of_zero new.labels i (omega (arith, less, long)) e))
