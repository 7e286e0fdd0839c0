-- Lists: what stands at a place, tests of all elements and of some, prefixes.
use Rattle.std.proofs.Common.{◌≡◌, ℕ, zero, suc, ◌<◌, ◌⊎◌, inl, inr, Bool, true, ◌&&◌, ◌||◌, List, [], ◌∷◌, ◌++◌, map, take, drop, length, Option, Some, slice_get, refl, ap, arith}
use Rattle.std.specs.List.{list_all, list_any}
use Rattle.std.proofs.lemmas.Bool.{and_parts, and_from, or_cases, or_left, or_right}
use Rattle.std.proofs.lemmas.List.Folds.{list_all-append, list_all-map}
use Rattle.std.proofs.lemmas.Option.{same_Some}

pub head_same : {A : Type 0} (x y : A) (xs ys : List A) → x ∷ xs ≡ y ∷ ys → x ≡ y
head_same x y xs ys e = cc

pub tail_same : {A : Type 0} (x y : A) (xs ys : List A) → x ∷ xs ≡ y ∷ ys → xs ≡ ys
tail_same x y xs ys e = cc

-- what stands in a list stands there in a longer one
pub get_grown : {A : Type 0} (xs ys : List A) (n : ℕ) (x : A) → slice_get xs n ≡ Some x → slice_get (xs ++ ys) n ≡ Some x
get_grown [] ys n x e = absurd cc
get_grown (y ∷ xs) ys zero x e = e
get_grown (y ∷ xs) ys (suc n) x e = get_grown xs ys n x e

pub get_last : {A : Type 0} (xs : List A) (x : A) → slice_get (xs ++ x ∷ []) (length xs) ≡ Some x
get_last [] x = refl
get_last (y ∷ xs) x = get_last xs x

pub get_below : {A : Type 0} (xs : List A) (n : ℕ) → n < length xs → (x : A) × (slice_get xs n ≡ Some x)
get_below [] n lt = absurd (omega arith)
get_below (x ∷ xs) zero lt = (x, refl)
get_below (x ∷ xs) (suc n) lt = get_below xs n (omega arith)

pub get_split : {A : Type 0} (xs : List A) (n : ℕ) (x : A) → slice_get xs n ≡ Some x → xs ≡ take n xs ++ x ∷ drop (suc n) xs
get_split [] n x e = absurd cc
get_split (y ∷ xs) zero x e = ap (λ z. z ∷ xs) (same_Some y x e)
get_split (y ∷ xs) (suc n) x e = ap (λ zs. y ∷ zs) (get_split xs n x e)

-- one more in a list is the last, or stood there before
pub get_pushed : {A : Type 0} (xs : List A) (x : A) (n : ℕ) (y : A) → slice_get (xs ++ x ∷ []) n ≡ Some y → (slice_get xs n ≡ Some y) ⊎ ((n ≡ length xs) × (x ≡ y))
get_pushed [] x zero y e = inr (refl, same_Some x y e)
get_pushed [] x (suc n) y e = absurd cc
get_pushed (z ∷ xs) x zero y e = inl e
get_pushed (z ∷ xs) x (suc n) y e = next (get_pushed xs x n y e)
  where
    next : (slice_get xs n ≡ Some y) ⊎ ((n ≡ length xs) × (x ≡ y)) → (slice_get xs n ≡ Some y) ⊎ ((suc n ≡ suc (length xs)) × (x ≡ y))
    next (inl h) = inl h
    next (inr h) = inr (ap suc h.0, h.1)

-- a function that agrees at each element that passes a test agrees at the list
pub map_agree : {A B : Type 0} (test : A → Bool) (f g : A → B) (xs : List A) → ((x : A) → test x ≡ true → f x ≡ g x) → list_all test xs ≡ true → map f xs ≡ map g xs
map_agree test f g [] h all = refl
map_agree test f g (x ∷ xs) h all =
    let parts = and_parts (test x) (list_all test xs) all in
    let first = h x parts.0 in
    let others = map_agree test f g xs h parts.1 in
    cc

pub all_weaker : {A : Type 0} (p q : A → Bool) (xs : List A) → ((x : A) → p x ≡ true → q x ≡ true) → list_all p xs ≡ true → list_all q xs ≡ true
all_weaker p q [] h all = refl
all_weaker p q (x ∷ xs) h all =
    let parts = and_parts (p x) (list_all p xs) all in
    and_from (q x) (list_all q xs) (h x parts.0) (all_weaker p q xs h parts.1)

pub any_weaker : {A : Type 0} (p q : A → Bool) (xs : List A) → ((x : A) → p x ≡ true → q x ≡ true) → list_any p xs ≡ true → list_any q xs ≡ true
any_weaker p q [] h any = any
any_weaker p q (x ∷ xs) h any = next (or_cases (p x) (list_any p xs) any) (any_weaker p q xs h)
  where
    next : (p x ≡ true) ⊎ (list_any p xs ≡ true) → (list_any p xs ≡ true → list_any q xs ≡ true) → (q x || list_any q xs) ≡ true
    next (inl e) others = or_left (q x) (list_any q xs) (h x e)
    next (inr e) others = or_right (q x) (list_any q xs) (others e)

pub all_parts : {A : Type 0} (test : A → Bool) (xs ys : List A) → list_all test (xs ++ ys) ≡ true → (list_all test xs ≡ true) × (list_all test ys ≡ true)
all_parts test xs ys e = and_parts (list_all test xs) (list_all test ys) (rw (list_all-append test xs ys) at e)

pub any_mapped : {A B : Type 0} (test : B → Bool) (f : A → B) (xs : List A) → list_any test (map f xs) ≡ list_any (λ x. test (f x)) xs
any_mapped test f [] = refl
any_mapped test f (x ∷ xs) = ap (λ b. test (f x) || b) (any_mapped test f xs)

-- tests of mapped lists, by one name
pub ruleset mapped = (list_all-map, any_mapped)
