-- Parts of the list of all values.
use Rattle.std.proofs.Common.{◌≡◌, ℕ, zero, suc, ◌+◌, ◌-◌, ◌<◌, ◌≤◌, List, [], ◌∷◌, ◌++◌, take, drop, set, reverse, length, refl, sym, ap, ◌∙◌, arith, length-drop}
use Rattle.std.proofs.lemmas.List.{reverse-append, reverse-reverse, take-append-le, drop-append-le, length-append, take_all, drop_all}
use Rattle.std.proofs.Math.Seq.{drop-nil}
use Rattle.df_nvm.proofs.Lists.{take_reverse, drop_reverse}

pub take_set : {A : Type 0} → (n : ℕ) (l : List A) (i : ℕ) (a : A) → take n (set l i a) ≡ set (take n l) i a
take_set zero l i a = refl
take_set (suc n) [] i a = refl
take_set (suc n) (x ∷ l) zero a = refl
take_set (suc n) (x ∷ l) (suc i) a = ap (λ r. x ∷ r) (take_set n l i a)

pub drop_set : {A : Type 0} → (n : ℕ) (l : List A) (k i : ℕ) (a : A) → k ≡ n + i → drop n (set l k a) ≡ set (drop n l) i a
drop_set zero l k i a e = let j : k ≡ i = omega (arith, e) in ap (λ m. set l m a) j
drop_set (suc n) [] k i a e = refl
drop_set (suc n) (x ∷ l) zero i a e = absurd (omega (arith, e))
drop_set (suc n) (x ∷ l) (suc k) i a e = drop_set n l k i a (omega (arith, e))

pub drop_set_past : {A : Type 0} → (n : ℕ) (l : List A) (k : ℕ) (a : A) → k < n → drop n (set l k a) ≡ drop n l
drop_set_past zero l k a lt = absurd (omega arith)
drop_set_past (suc n) [] k a lt = refl
drop_set_past (suc n) (x ∷ l) zero a lt = refl
drop_set_past (suc n) (x ∷ l) (suc k) a lt = drop_set_past n l k a (omega arith)

pub take_set_past : {A : Type 0} → (n : ℕ) (l : List A) (k : ℕ) (a : A) → n ≤ k → take n (set l k a) ≡ take n l
take_set_past zero l k a le = refl
take_set_past (suc n) [] k a le = refl
take_set_past (suc n) (x ∷ l) zero a le = absurd (omega arith)
take_set_past (suc n) (x ∷ l) (suc k) a le = ap (λ r. x ∷ r) (take_set_past n l k a (omega arith))

pub drop_drop : {A : Type 0} → (n m : ℕ) (l : List A) (k : ℕ) → k ≡ n + m → drop m (drop n l) ≡ drop k l
drop_drop zero m l k e = let j : m ≡ k = omega (arith, e) in ap (λ i. drop i l) j
drop_drop (suc n) zero [] k e = sym (drop-nil k)
drop_drop (suc n) (suc m) [] k e = sym (drop-nil k)
drop_drop (suc n) m (x ∷ l) zero e = absurd (omega (arith, e))
drop_drop (suc n) m (x ∷ l) (suc k) e = drop_drop n m l k (omega (arith, e))

-- the first of the front
pub take_kept : {A : Type 0} → (n m : ℕ) (l r : List A) → n ≤ m → m ≤ length l → take n (take m l ++ r) ≡ take n l
take_kept zero m l r le long = refl
take_kept (suc n) zero l r le long = absurd (omega arith)
take_kept (suc n) (suc m) [] r le long = absurd (omega arith)
take_kept (suc n) (suc m) (x ∷ l) r le long = ap (λ y. x ∷ y) (take_kept n m l r (omega arith) (omega arith))

-- a part of the front
pub part_kept : {A : Type 0} → (b n m : ℕ) (l r : List A) → b + n ≤ m → m ≤ length l → take n (drop b (take m l ++ r)) ≡ take n (drop b l)
part_kept zero n m l r le long = take_kept n m l r (omega arith) long
part_kept (suc b) n zero l r le long = absurd (omega arith)
part_kept (suc b) n (suc m) [] r le long = absurd (omega arith)
part_kept (suc b) n (suc m) (x ∷ l) r le long = part_kept b n m l r (omega arith) (omega arith)

-- what is past a part of the front
pub drop_kept : {A : Type 0} → (b m k : ℕ) (l r : List A) → m ≡ b + k → m ≤ length l → drop b (take m l ++ r) ≡ take k (drop b l) ++ r
drop_kept zero m k l r e long = let j : m ≡ k = omega (arith, e) in ap (λ i. take i l ++ r) j
drop_kept (suc b) zero k l r e long = absurd (omega (arith, e))
drop_kept (suc b) (suc m) k [] r e long = absurd (omega arith)
drop_kept (suc b) (suc m) k (x ∷ l) r e long = drop_kept b m k l r (omega (arith, e)) (omega arith)

-- two parts, one after another
pub take_parts : {A : Type 0} → (b k m : ℕ) (l : List A) → m ≡ b + k → take m l ≡ take b l ++ take k (drop b l)
take_parts zero k m l e = let j : m ≡ k = omega (arith, e) in ap (λ i. take i l) j
take_parts (suc b) k zero l e = absurd (omega (arith, e))
take_parts (suc b) zero (suc m) [] e = refl
take_parts (suc b) (suc k) (suc m) [] e = refl
take_parts (suc b) k (suc m) (x ∷ l) e = ap (λ r. x ∷ r) (take_parts b k m l (omega (arith, e)))

-- the first k of the part from f on, turned round
pub top_taken : {A : Type 0} → (f k n : ℕ) (l : List A) → f + k ≤ length l → n ≡ length l - k → take k (reverse (drop f l)) ≡ reverse (drop n l)
top_taken f k n l le at =
    let long : length (drop f l) ≡ length l - f = length-drop f l in
    take_reverse k (drop f l) (omega (arith, long)) ∙ ap reverse (drop_drop f (length (drop f l) - k) l n (omega (arith, long)))

-- and the others
pub top_dropped : {A : Type 0} → (f k n : ℕ) (l : List A) → f + k ≤ length l → n ≡ length l - k - f → drop k (reverse (drop f l)) ≡ reverse (take n (drop f l))
top_dropped f k n l le at =
    let long : length (drop f l) ≡ length l - f = length-drop f l in
    let same : length (drop f l) - k ≡ n = omega (arith, long) in
    drop_reverse k (drop f l) (omega (arith, long)) ∙ ap (λ i. reverse (take i (drop f l))) same

-- A new frame of the last p values and more: b, l and their ends as before.
pub entered_below : {A : Type 0} → (b l p base : ℕ) (values more : List A) → b + l + p ≤ length values → base ≡ length values - p
    → take base (values ++ more) ≡ take b values ++ take l (drop b values) ++ reverse (drop p (reverse (drop (b + l) values)))
entered_below b l p base values more le at =
    let rest : ℕ = base - (b + l) in
    take-append-le base values more (omega arith)
    ∙ take_parts (b + l) rest base values (omega arith)
    ∙ ap (λ x. x ++ take rest (drop (b + l) values)) (take_parts b l (b + l) values refl)
    ∙ ap (λ x. take b values ++ take l (drop b values) ++ x) (sym (ap reverse (top_dropped (b + l) p rest values (omega arith) (omega arith)) ∙ reverse-reverse (take rest (drop (b + l) values))))

pub entered_locals : {A : Type 0} → (f p m base : ℕ) (values more : List A) → f + p ≤ length values → length more ≡ m → base ≡ length values - p
    → take (p + m) (drop base (values ++ more)) ≡ reverse (take p (reverse (drop f values))) ++ more
entered_locals f p m base values more le long at =
    let last : length (drop base values) ≡ length values - base = length-drop base values in
    ap (take (p + m)) (drop-append-le base values more (omega arith))
    ∙ take_all (p + m) (drop base values ++ more) (omega (arith, last, length-append (drop base values) more))
    ∙ ap (λ x. x ++ more) (sym (ap reverse (top_taken f p base values le at) ∙ reverse-reverse (drop base values)))

pub entered_operands : {A : Type 0} → (n : ℕ) (values : List A) → length values ≤ n → reverse (drop n values) ≡ []
entered_operands n values le = ap reverse (drop_all n values le)

-- The frame on top ends: its last k values come after those below it.
pub left_locals : {A : Type 0} → (b l : ℕ) (below results : List A) → b + l ≤ length below → take l (drop b (below ++ results)) ≡ take l (drop b below)
left_locals b l below results le =
    let long : length (drop b below) ≡ length below - b = length-drop b below in
    ap (take l) (drop-append-le b below results (omega arith)) ∙ take-append-le l (drop b below) results (omega (arith, long))

pub left_operands : {A : Type 0} → (b l f k start : ℕ) (below values : List A) → b + l ≤ length below → f + k ≤ length values → start ≡ length values - k
    → reverse (drop (b + l) (below ++ drop start values)) ≡ take k (reverse (drop f values)) ++ reverse (drop (b + l) below)
left_operands b l f k start below values le long at =
    ap reverse (drop-append-le (b + l) below (drop start values) le) ∙ reverse-append (drop (b + l) below) (drop start values)
    ∙ ap (λ x. x ++ reverse (drop (b + l) below)) (sym (top_taken f k start values long at))
