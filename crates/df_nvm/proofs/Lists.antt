-- The last of a list, turned round.
use Rattle.std.proofs.Common.{◌≡◌, ℕ, zero, suc, ◌-◌, ◌≤◌, List, [], ◌∷◌, ◌++◌, map, take, drop, set, reverse, length, refl, sym, ap, ◌∙◌, arith, length-drop, take-append-drop}
use Rattle.std.proofs.lemmas.List.{reverse-append, length-reverse}

take_front : {A : Type 0} → (x y : List A) → take (length x) (x ++ y) ≡ x
take_front [] y = refl
take_front (a ∷ x) y = ap (λ r. a ∷ r) (take_front x y)

drop_front : {A : Type 0} → (x y : List A) → drop (length x) (x ++ y) ≡ y
drop_front [] y = refl
drop_front (a ∷ x) y = drop_front x y

turned : {A : Type 0} → (k : ℕ) (xs : List A) → reverse xs ≡ reverse (drop (length xs - k) xs) ++ reverse (take (length xs - k) xs)
turned k xs = ap reverse (sym (take-append-drop (length xs - k) xs)) ∙ reverse-append (take (length xs - k) xs) (drop (length xs - k) xs)

last_long : {A : Type 0} → (k : ℕ) (xs : List A) → k ≤ length xs → k ≡ length (reverse (drop (length xs - k) xs))
last_long k xs le =
    let e : length (drop (length xs - k) xs) ≡ length xs - (length xs - k) = length-drop (length xs - k) xs in
    let n : k ≡ length (drop (length xs - k) xs) = omega (arith, e) in
    n ∙ sym (length-reverse (drop (length xs - k) xs))

-- the first of the list turned round are the last of it
pub take_reverse : {A : Type 0} → (k : ℕ) (xs : List A) → k ≤ length xs → take k (reverse xs) ≡ reverse (drop (length xs - k) xs)
take_reverse k xs le =
    ap (take k) (turned k xs) ∙ ap (λ n. take n (reverse (drop (length xs - k) xs) ++ reverse (take (length xs - k) xs))) (last_long k xs le)
    ∙ take_front (reverse (drop (length xs - k) xs)) (reverse (take (length xs - k) xs))

pub drop_reverse : {A : Type 0} → (k : ℕ) (xs : List A) → k ≤ length xs → drop k (reverse xs) ≡ reverse (take (length xs - k) xs)
drop_reverse k xs le =
    ap (drop k) (turned k xs) ∙ ap (λ n. drop n (reverse (drop (length xs - k) xs) ++ reverse (take (length xs - k) xs))) (last_long k xs le)
    ∙ drop_front (reverse (drop (length xs - k) xs)) (reverse (take (length xs - k) xs))

-- so many of the front of a list and more
pub take_of_front : {A : Type 0} → (k : ℕ) (x y : List A) → length x ≡ k → take k (x ++ y) ≡ x
take_of_front k x y e = ap (λ n. take n (x ++ y)) (sym e) ∙ take_front x y

pub map-drop : {A B : Type 0} → (f : A → B) (n : ℕ) (xs : List A) → map f (drop n xs) ≡ drop n (map f xs)
map-drop f zero xs = refl
map-drop f (suc n) [] = refl
map-drop f (suc n) (x ∷ xs) = map-drop f n xs

pub map-take : {A B : Type 0} → (f : A → B) (n : ℕ) (xs : List A) → map f (take n xs) ≡ take n (map f xs)
map-take f zero xs = refl
map-take f (suc n) [] = refl
map-take f (suc n) (x ∷ xs) = ap (λ r. f x ∷ r) (map-take f n xs)

pub map-set : {A B : Type 0} → (f : A → B) (xs : List A) (i : ℕ) (x : A) → map f (set xs i x) ≡ set (map f xs) i (f x)
map-set f [] i x = refl
map-set f (y ∷ ys) zero x = refl
map-set f (y ∷ ys) (suc i) x = ap (λ r. f y ∷ r) (map-set f ys i x)

pub length-map_of : {A B : Type 0} → (f : A → B) (xs : List A) → length (map f xs) ≡ length xs
length-map_of f [] = refl
length-map_of f (x ∷ xs) = ap (λ n. suc n) (length-map_of f xs)
