-- Entries without those of coefficient 0.
use Rattle.std.proofs.Common.{◌≡◌, ◌⊎◌, inl, inr, ℕ, suc, ◌<◌, ◌≤◌, ℤ, pos, Bool, true, false, cond, nat_eq, List, [], ◌∷◌, ◌++◌, if◌then◌else◌, Some, refl, sym, ap, ◌∙◌, arith, rules, append_assoc}
use Rattle.std.proofs.lemmas.Bool.Decides.{Decides-int_eq}
use Rattle.std.specs.declared.cmp.Ordering.TheVariants.{Less, Equal, Greater}
use Rattle.std.specs.Cmp.{nat_cmp_is}
use Rattle.std.specs.List.{AllByRecursion}
use Rattle.std.specs.List.Sorted.{IsStrictlySortedBy}
use Rattle.std.specs.Option.{unwrap_or}
use Rattle.std.specs.Ordering.{int_eq, nat_cmp, is_eq}
use Rattle.std.specs.BTreeMap.{is_at}
use Rattle.std.specs.Map.{lookup, keys_of}
use Rattle.std.proofs.lemmas.Bool.{eq-eqb, eqb-true}
use Rattle.df_lemmas.proofs.Numbers.{less_unequal, more_unequal}
use Rattle.df_row.specs.RowView.{coefficient_at}
use Rattle.df_level.specs.Entries.{coefficient_of, ascends}
use Rattle.df_level.specs.Merge.{with_entry}
use Rattle.df_level.proofs.Ascending.{IsFrom, from_ascends, none_below}

abbrev pub nonzero : List (ℕ × ℤ) → List (ℕ × ℤ)
nonzero [] = []
nonzero ((k, v) ∷ es) = if int_eq v (pos 0) then nonzero es else (k, v) ∷ nonzero es

-- the entries so far, before those that are left
pub record IsKeeping (all left entries : List (ℕ × ℤ)) : Type 0 where
  pub same : entries ++ nonzero left ≡ nonzero all

pub keeping_goes : (all left entries new : List (ℕ × ℤ)) (k : ℕ) (v : ℤ) → IsKeeping all ((k, v) ∷ left) entries → new ≡ with_entry entries k v → IsKeeping all left new
keeping_goes all left entries new k v so_far e = record { same = ap (λ es. es ++ nonzero left) e ∙ moved (int_eq v (pos 0)) ∙ so_far.same }
  where
    moved : (b : Bool) → cond b entries (entries ++ (k, v) ∷ []) ++ nonzero left ≡ entries ++ cond b (nonzero left) ((k, v) ∷ nonzero left)
    moved true = refl
    moved false = append_assoc entries ((k, v) ∷ []) (nonzero left)

sorted_parts : (k : ℕ) (ks : List ℕ) → IsStrictlySortedBy nat_cmp (k ∷ ks) → AllByRecursion (λ y. nat_cmp k y ≡ Less) ks × IsStrictlySortedBy nat_cmp ks
unfolding IsStrictlySortedBy
sorted_parts k ks sorted = sorted

from_less : (a b : ℕ) → nat_cmp a b ≡ Less → suc a ≤ b
from_less a b e = let less : a < b = search rules in less

all_above : (k : ℕ) (ks : List ℕ) → AllByRecursion (λ y. nat_cmp k y ≡ Less) ks → AllByRecursion (λ y. suc k ≤ y) ks
all_above k [] all = tt
all_above k (y ∷ ks) all = (from_less k y all.0, all_above k ks all.1)

nonzero_from : (low : ℕ) (es : List (ℕ × ℤ)) → AllByRecursion (λ y. low ≤ y) (keys_of es) → IsStrictlySortedBy nat_cmp (keys_of es) → IsFrom low (nonzero es)
nonzero_from low [] all sorted = tt
nonzero_from low ((k, v) ∷ es) all sorted =
    let parts = sorted_parts k (keys_of es) sorted in
    by (int_eq v (pos 0)) refl (nonzero_from low es all.1 parts.1) (nonzero_from (suc k) es (all_above k (keys_of es) parts.0) parts.1)
  where
    by : (b : Bool) → int_eq v (pos 0) ≡ b → IsFrom low (nonzero es) → IsFrom (suc k) (nonzero es) → IsFrom low (cond b (nonzero es) ((k, v) ∷ nonzero es))
    by true e here above = here
    by false e here above = (all.0, ap (λ b. cond b false true) e, above)

same_test : (n k : ℕ) → is_eq (nat_cmp n k) ≡ nat_eq n k
same_test n k = by (sides n k)
  where
    sides : (n k : ℕ) → (n < k) ⊎ ((n ≡ k) ⊎ (k < n))
    sides n k = grind arith

    by : (n < k) ⊎ ((n ≡ k) ⊎ (k < n)) → is_eq (nat_cmp n k) ≡ nat_eq n k
    by (inl less) = ap is_eq (sym (nat_cmp_is n k Less less)) ∙ sym (less_unequal n k less)
    by (inr (inl same)) = ap is_eq (sym (nat_cmp_is n k Equal same)) ∙ sym (eq-eqb n k same)
    by (inr (inr more)) = ap is_eq (sym (nat_cmp_is n k Greater more)) ∙ sym (more_unequal n k more)

-- the coefficient of a node is its entry's, or that among the others
entry_read : (n k : ℕ) (v : ℤ) (es : List (ℕ × ℤ)) → coefficient_at ((k, v) ∷ es) n ≡ cond (nat_eq n k) v (coefficient_at es n)
entry_read n k v es = either_way (is_eq (nat_cmp n k)) ∙ ap (λ b. cond b v (coefficient_at es n)) (same_test n k)
  where
    either_way : (b : Bool) → unwrap_or (cond b (Some v) (lookup (is_at (nat_cmp n)) es)) (pos 0) ≡ cond b v (coefficient_at es n)
    either_way true = refl
    either_way false = refl

nonzero_read : (es : List (ℕ × ℤ)) → IsStrictlySortedBy nat_cmp (keys_of es) → (n : ℕ) → coefficient_of (nonzero es) n ≡ coefficient_at es n
nonzero_read [] sorted n = refl
nonzero_read ((k, v) ∷ es) sorted n =
    let parts = sorted_parts k (keys_of es) sorted in
    by (int_eq v (pos 0)) refl (nonzero_read es parts.1 n) (nonzero_from (suc k) es (all_above k (keys_of es) parts.0) parts.1) ∙ sym (entry_read n k v es)
  where
    passed_over : (b : Bool) → nat_eq n k ≡ b → v ≡ pos 0 → coefficient_of (nonzero es) n ≡ coefficient_at es n → IsFrom (suc k) (nonzero es) → coefficient_of (nonzero es) n ≡ cond b v (coefficient_at es n)
    passed_over true at is rest above = let same = eqb-true n k at in none_below (suc k) (nonzero es) n above (omega arith) ∙ sym is
    passed_over false at is rest above = rest

    by : (b : Bool) → int_eq v (pos 0) ≡ b → coefficient_of (nonzero es) n ≡ coefficient_at es n → IsFrom (suc k) (nonzero es) → coefficient_of (cond b (nonzero es) ((k, v) ∷ nonzero es)) n ≡ cond (nat_eq n k) v (coefficient_at es n)
    by true e rest above = passed_over (nat_eq n k) refl ((Decides-int_eq v (pos 0)).0 e) rest above
    by false e rest above = ap (λ z. cond (nat_eq n k) v z) rest

all_natural : (ks : List ℕ) → AllByRecursion (λ y. 0 ≤ y) ks
all_natural [] = tt
all_natural (k ∷ ks) = (omega arith, all_natural ks)

empty_after : (entries : List (ℕ × ℤ)) → entries ++ [] ≡ entries
empty_after [] = refl
empty_after (e ∷ es) = ap (λ others. e ∷ others) (empty_after es)

module _ (all entries : List (ℕ × ℤ)) (kept : IsKeeping all [] entries) (sorted : IsStrictlySortedBy nat_cmp (keys_of all)) where
  are_nonzero : entries ≡ nonzero all
  are_nonzero = sym (empty_after entries) ∙ kept.same

  pub kept_ascend : ascends 0 entries ≡ true
  kept_ascend = ap (ascends 0) are_nonzero ∙ from_ascends 0 (nonzero all) (nonzero_from 0 all (all_natural (keys_of all)) sorted)

  pub kept_coefficients : coefficient_of entries ≡ coefficient_at all
  kept_coefficients = ap coefficient_of are_nonzero ∙ (λ i n. nonzero_read all sorted n i)
