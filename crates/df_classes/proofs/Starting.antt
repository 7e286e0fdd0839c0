-- Each node alone.
use Rattle.std.proofs.Common.{◌≡◌, ℕ, zero, suc, ◌+◌, ◌<◌, ◌≤◌, ◌⊎◌, inl, inr, List, [], ◌∷◌, ◌++◌, length, get_or, map, set, Contains, refl, sym, ap, ◌∙◌, subst, arith}
use Rattle.std.proofs.lemmas.List.{length-map, length-replicate, get_or_past, get_or-map, map-set, map_push, set-get_or, set_past}
use Rattle.std.proofs.lemmas.Bool.{cases_lt}
use Rattle.df_lemmas.proofs.Alls.{none_there}
use Rattle.df_classes.specs.mirror.State.{label_of, list_at, pushed, without_last, popped, counted_from, ones_from, alone}
use Rattle.df_classes.specs.mirror.Partition.{IsPartition}
use Rattle.df_classes.proofs.Moving.{first_there, there_cases}

-- ---- lists of numbers

pub counted_last : (first n : ℕ) → counted_from first (suc n) ≡ counted_from first n ++ (first + n) ∷ []
counted_last first zero = ap (λ (k : ℕ). k ∷ []) (omega arith)
counted_last first (suc n) =
    let e : suc first + n ≡ first + suc n = omega arith in
    ap (λ (xs : List ℕ). first ∷ xs) (counted_last (suc first) n ∙ ap (λ (k : ℕ). counted_from (suc first) n ++ k ∷ []) e)

pub counted_more : (n : ℕ) → counted_from 0 (n + 1) ≡ counted_from 0 n ++ n ∷ []
counted_more n =
    let one : n + 1 ≡ suc n = omega arith in
    let none : 0 + n ≡ n = omega arith in
    ap (counted_from 0) one ∙ counted_last 0 n ∙ ap (λ (k : ℕ). counted_from 0 n ++ k ∷ []) none

pub ones_last : (first n : ℕ) → ones_from first (suc n) ≡ ones_from first n ++ ((first + n) ∷ []) ∷ []
ones_last first zero = ap (λ (k : ℕ). (k ∷ []) ∷ []) (omega arith)
ones_last first (suc n) =
    let e : suc first + n ≡ first + suc n = omega arith in
    ap (λ (xs : List (List ℕ)). (first ∷ []) ∷ xs) (ones_last (suc first) n ∙ ap (λ (k : ℕ). ones_from (suc first) n ++ (k ∷ []) ∷ []) e)

pub ones_more : (n : ℕ) → ones_from 0 (n + 1) ≡ ones_from 0 n ++ (n ∷ []) ∷ []
ones_more n =
    let one : n + 1 ≡ suc n = omega arith in
    let none : 0 + n ≡ n = omega arith in
    ap (ones_from 0) one ∙ ones_last 0 n ∙ ap (λ (k : ℕ). ones_from 0 n ++ (k ∷ []) ∷ []) none

counted_long : (first n : ℕ) → length (counted_from first n) ≡ n
counted_long first zero = refl
counted_long first (suc n) = ap suc (counted_long (suc first) n)

ones_long : (first n : ℕ) → length (ones_from first n) ≡ n
ones_long first zero = refl
ones_long first (suc n) = ap suc (ones_long (suc first) n)

counted_at : (first n i d : ℕ) → i < n → get_or (counted_from first n) i d ≡ first + i
counted_at first zero i d less = absurd (omega (arith, less))
counted_at first (suc n) zero d less = omega arith
counted_at first (suc n) (suc i) d less =
    let e : suc first + i ≡ first + suc i = omega arith in counted_at (suc first) n i d (omega (arith, less)) ∙ e

ones_at : (first n i : ℕ) → i < n → get_or (ones_from first n) i [] ≡ (first + i) ∷ []
ones_at first zero i less = absurd (omega (arith, less))
ones_at first (suc n) zero less = ap (λ (k : ℕ). k ∷ []) (omega arith)
ones_at first (suc n) (suc i) less =
    let e : suc first + i ≡ first + suc i = omega arith in ones_at (suc first) n i (omega (arith, less)) ∙ ap (λ (k : ℕ). k ∷ []) e

-- ---- as classes

pub own_label : (count n : ℕ) → label_of (alone count) n ≡ n
own_label count n = by (cases_lt n count)
  where
    by : (n < count) ⊎ (count ≤ n) → label_of (alone count) n ≡ n
    by (inl less) = let none : 0 + n ≡ n = omega arith in counted_at 0 count n n less ∙ none
    by (inr past) = get_or_past (counted_from 0 count) n n (omega (arith, past, counted_long 0 count))

own_list : (count n : ℕ) → n < count → list_at (alone count).members n ≡ n ∷ []
own_list count n less = let none : 0 + n ≡ n = omega arith in ones_at 0 count n less ∙ ap (λ (k : ℕ). k ∷ []) none

no_list : (count n : ℕ) → count ≤ n → list_at (alone count).members n ≡ []
no_list count n past = get_or_past (ones_from 0 count) n [] (omega (arith, past, ones_long 0 count))

pub alone_is : (count : ℕ) → IsPartition count (alone count)
alone_is count = record {
  labels_long = counted_long 0 count;
  members_long = ones_long 0 count;
  within = λ n less. omega (arith, less, own_label count n);
  own = λ n. ap (label_of (alone count)) (own_label count n);
  listed = λ n less. subst (λ (l : ℕ). Contains (list_at (alone count).members l) n) (sym (own_label count n)) (subst (λ (xs : List ℕ). Contains xs n) (sym (own_list count n less)) (first_there n []));
  only = λ l n own there. by l n there (cases_lt l count);
}
  where
    one : (l n : ℕ) → (l ≡ n) ⊎ Contains [] n → label_of (alone count) n ≡ l
    one l n (inl e) = own_label count n ∙ sym e
    one l n (inr there) = absurd (none_there n there)

    by : (l n : ℕ) → Contains (list_at (alone count).members l) n → (l < count) ⊎ (count ≤ l) → label_of (alone count) n ≡ l
    by l n there (inl less) = one l n (there_cases l [] n (subst (λ (xs : List ℕ). Contains xs n) (own_list count l less) there))
    by l n there (inr past) = absurd (none_there n (subst (λ (xs : List ℕ). Contains xs n) (no_list count l past) there))

pub buckets_long : (count : ℕ) → length (alone count).buckets ≡ count
buckets_long count = length-replicate count []

-- ---- in the code's lists

pub ones_pushed : {A : Type 0} (items : A → List ℕ) (lists new : List A) (n : ℕ) (v : A) → map items lists ≡ ones_from 0 n → new ≡ lists ++ v ∷ [] → items v ≡ n ∷ [] → map items new ≡ ones_from 0 (n + 1)
ones_pushed items lists new n v so_far is v_is =
    ap (map items) is ∙ map_push items lists v ∙ (λ i. so_far i ++ v_is i ∷ []) ∙ sym (ones_more n)

pub counted_pushed : (numbers new : List ℕ) (n : ℕ) → numbers ≡ counted_from 0 n → new ≡ numbers ++ n ∷ [] → new ≡ counted_from 0 (n + 1)
counted_pushed numbers new n so_far is = is ∙ ap (λ (xs : List ℕ). xs ++ n ∷ []) so_far ∙ sym (counted_more n)

module _ {A : Type 0} (items : A → List ℕ) (lists : List A) (n : ℕ) (old new : A) (less : n < length lists) (is : old ≡ get_or lists n old) where
  list_read : items old ≡ list_at (map items lists) n
  list_read = ap items is ∙ sym (get_or-map items lists n old [] less)

  pub listed_pushed : (x : ℕ) → items new ≡ items old ++ x ∷ [] → map items (set lists n new) ≡ pushed (map items lists) n x
  listed_pushed x e = map-set items lists n new ∙ ap (set (map items lists) n) (e ∙ ap (λ (xs : List ℕ). xs ++ x ∷ []) list_read)

  pub listed_popped : items new ≡ without_last (items old) → map items (set lists n new) ≡ popped (map items lists) n
  listed_popped e = map-set items lists n new ∙ ap (set (map items lists) n) (e ∙ ap without_last list_read)

  pub listed_same : items new ≡ items old → map items (set lists n new) ≡ map items lists
  listed_same e = map-set items lists n new ∙ ap (set (map items lists) n) (e ∙ list_read) ∙ set-get_or (map items lists) n []

pub popped_past : (lists : List (List ℕ)) (n : ℕ) → length lists ≤ n → popped lists n ≡ lists
popped_past lists n past = set_past lists n (without_last (list_at lists n)) past

-- a list of the view is one of the code's
pub listed_inside : {A : Type 0} (items : A → List ℕ) (lists : List A) (view : List (List ℕ)) (n : ℕ) → map items lists ≡ view → n < length view → n < length lists
listed_inside items lists view n is less = omega (arith, less, ap length is, length-map lists items)
