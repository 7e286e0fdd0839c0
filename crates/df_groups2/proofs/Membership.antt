-- What a list contains.
use Rattle.std.proofs.Common.{◌≡◌, zero, suc, ◌⊎◌, inl, inr, List, [], ◌∷◌, map, Contains, refl, ap, arith}

pub contains_head : {A : Type 0} (x : A) (xs : List A) → Contains (x ∷ xs) x
contains_head x xs = (0, omega arith, refl)

pub contains_tail : {A : Type 0} (x y : A) (xs : List A) → Contains xs y → Contains (x ∷ xs) y
contains_tail x y xs (k, lt, e) = (suc k, omega arith, e)

pub cons_cases : {A : Type 0} (x y : A) (xs : List A) → Contains (x ∷ xs) y → (x ≡ y) ⊎ Contains xs y
cons_cases x y xs (zero, lt, e) = inl e
cons_cases x y xs (suc k, lt, e) = inr (k, omega arith, e)

pub contains_mapped : {A B : Type 0} (f : A → B) (xs : List A) (x : A) → Contains xs x → Contains (map f xs) (f x)
contains_mapped f [] x (k, lt, e) = absurd (omega arith)
contains_mapped f (y ∷ xs) x (zero, lt, e) = (0, omega arith, ap f e)
contains_mapped f (y ∷ xs) x (suc k, lt, e) = contains_tail (f y) (f x) (map f xs) (contains_mapped f xs x (k, omega arith, e))

pub mapped_from : {A B : Type 0} (f : A → B) (xs : List A) (y : B) → Contains (map f xs) y → (x : A) × Contains xs x × (f x ≡ y)
mapped_from f [] y (k, lt, e) = absurd (omega arith)
mapped_from f (x ∷ xs) y (zero, lt, e) = (x, contains_head x xs, e)
mapped_from f (x ∷ xs) y (suc k, lt, e) =
    let found = mapped_from f xs y (k, omega arith, e) in
    (found.0, contains_tail x found.0 xs found.1, found.2)
