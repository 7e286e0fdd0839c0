-- The frame on top, after the code changed values.
use Rattle.std.proofs.Common.{◌≡◌, ℕ, zero, suc, ◌+◌, ◌-◌, ◌<◌, ◌≤◌, List, [], ◌∷◌, ◌++◌, take, drop, set, reverse, length, Option, Some, None, slice_get, refl, sym, ap, ◌∙◌, arith, length-drop, take-append-drop, IfSome}
use Rattle.std.proofs.lemmas.List.{reverse-append, reverse-reverse, map-append, take-append-le, drop_all}
use Rattle.std.proofs.lemmas.Option.{same_Some}
use Rattle.std.specs.Option.{option_copied}
use denote.Ref.{Bor}
use Rattle.df_nmach.specs.Value as pure
use Rattle.df_nmach.specs.View.{value_of, values_of}
use Rattle.df_nmach.specs.declared.value.Value.{Value}
use Rattle.df_nvm.proofs.Lists.{take_of_front, map-set, map-drop, map-take, length-map_of}
use Rattle.df_nvm.proofs.Segments.{take_set, drop_set, drop_set_past, take_set_past, take_kept, part_kept, drop_kept, top_taken, top_dropped, left_locals, left_operands}

long : (xs : List Value) → length (values_of xs) ≡ length xs
long xs = length-map_of value_of xs

-- a local is written
pub set_local : (b l i : ℕ) (xs : List Value) (v : Value) → take l (drop b (values_of (set xs (b + i) v))) ≡ set (take l (drop b (values_of xs))) i (value_of v)
set_local b l i xs v =
    ap (λ (p : List pure.Value). take l (drop b p)) (map-set value_of xs (b + i) v)
    ∙ ap (take l) (drop_set b (values_of xs) (b + i) i (value_of v) (omega arith)) ∙ take_set l (drop b (values_of xs)) i (value_of v)

pub set_below : (b i : ℕ) (xs : List Value) (v : Value) → take b (values_of (set xs (b + i) v)) ≡ take b (values_of xs)
set_below b i xs v = ap (take b) (map-set value_of xs (b + i) v) ∙ take_set_past b (values_of xs) (b + i) (value_of v) (omega arith)

pub set_operands : (b l i : ℕ) (xs : List Value) (v : Value) → i < l → reverse (drop (b + l) (values_of (set xs (b + i) v))) ≡ reverse (drop (b + l) (values_of xs))
set_operands b l i xs v lt = ap (λ (p : List pure.Value). reverse (drop (b + l) p)) (map-set value_of xs (b + i) v) ∙ ap reverse (drop_set_past (b + l) (values_of xs) (b + i) (value_of v) (omega arith))

-- A value stands in place of the last k values.
replaced_values : (xs rest new : List Value) (start : ℕ) (v : Value) → rest ≡ take start xs → new ≡ rest ++ v ∷ []
    → values_of new ≡ take start (values_of xs) ++ value_of v ∷ []
replaced_values xs rest new start v kept puts =
    ap (λ (l : List Value). values_of l) puts ∙ map-append value_of rest (v ∷ [])
    ∙ ap (λ (l : List pure.Value). l ++ value_of v ∷ []) (ap (λ (l : List Value). values_of l) kept ∙ map-take value_of start xs)

pub replaced_below : (b start : ℕ) (xs rest new : List Value) (v : Value) → b ≤ start → start ≤ length xs → rest ≡ take start xs → new ≡ rest ++ v ∷ []
    → take b (values_of new) ≡ take b (values_of xs)
replaced_below b start xs rest new v le short kept puts =
    ap (take b) (replaced_values xs rest new start v kept puts) ∙ take_kept b start (values_of xs) (value_of v ∷ []) le (omega (arith, long xs))

pub replaced_locals : (b l start : ℕ) (xs rest new : List Value) (v : Value) → b + l ≤ start → start ≤ length xs → rest ≡ take start xs → new ≡ rest ++ v ∷ []
    → take l (drop b (values_of new)) ≡ take l (drop b (values_of xs))
replaced_locals b l start xs rest new v le short kept puts =
    ap (λ (p : List pure.Value). take l (drop b p)) (replaced_values xs rest new start v kept puts)
    ∙ part_kept b l start (values_of xs) (value_of v ∷ []) le (omega (arith, long xs))

pub replaced_operands : (f k start : ℕ) (xs rest new : List Value) (v : Value) → f + k ≤ length xs → start ≡ length xs - k → rest ≡ take start xs → new ≡ rest ++ v ∷ []
    → reverse (drop f (values_of new)) ≡ value_of v ∷ drop k (reverse (drop f (values_of xs)))
replaced_operands f k start xs rest new v le at kept puts =
    let all : List pure.Value = values_of xs in
    let n : ℕ = start - f in
    let m : length all ≡ length xs = long xs in
    ap (λ (p : List pure.Value). reverse (drop f p)) (replaced_values xs rest new start v kept puts)
    ∙ ap reverse (drop_kept f start n all (value_of v ∷ []) (omega arith) (omega (arith, m)))
    ∙ reverse-append (take n (drop f all)) (value_of v ∷ [])
    ∙ ap (λ (r : List pure.Value). value_of v ∷ r) (sym (top_dropped f k n all (omega (arith, m)) (omega (arith, m))))

-- the last k values, the deepest first
pub last_values : (f k start : ℕ) (xs part : List Value) → f + k ≤ length xs → start ≡ length xs - k → part ≡ drop start xs
    → values_of part ≡ reverse (take k (reverse (drop f (values_of xs))))
last_values f k start xs part le at is =
    let m : length (values_of xs) ≡ length xs = long xs in
    ap (λ (l : List Value). values_of l) is ∙ map-drop value_of start xs
    ∙ sym (ap reverse (top_taken f k start (values_of xs) (omega (arith, m)) (omega (arith, m))) ∙ reverse-reverse (drop start (values_of xs)))

from_here : {A : Type 0} → (xs : List A) (n : ℕ) (x : A) → slice_get xs n ≡ Some x → drop n xs ≡ x ∷ drop (suc n) xs
from_here [] n x e = absurd cc
from_here (y ∷ xs) zero x e = ap (λ z. z ∷ xs) (same_Some y x e)
from_here (y ∷ xs) (suc n) x e = from_here xs n x e

-- the last value is on top
top_value : (f : ℕ) (xs : List Value) (v : Value) → f < length xs → slice_get xs (length xs - 1) ≡ Some v
    → reverse (drop f (values_of xs)) ≡ value_of v ∷ drop 1 (reverse (drop f (values_of xs)))
top_value f xs v lt e =
    let n : ℕ = length xs - 1 in
    let m : length (values_of xs) ≡ length xs = long xs in
    let all : List pure.Value = values_of xs in
    let last : drop n xs ≡ v ∷ [] = from_here xs n v e ∙ ap (λ (l : List Value). v ∷ l) (drop_all (suc n) xs (omega arith)) in
    let here : drop n all ≡ value_of v ∷ [] = sym (map-drop value_of n xs) ∙ ap (λ (l : List Value). values_of l) last in
    sym (take-append-drop 1 (reverse (drop f all)))
    ∙ ap (λ (l : List pure.Value). l ++ drop 1 (reverse (drop f all))) (top_taken f 1 n all (omega (arith, m)) (omega (arith, m)) ∙ ap reverse here)

pub top_is : (f : ℕ) (xs : List Value) (r : Option (Bor Value)) → f < length xs → option_copied r ≡ slice_get xs (length xs - 1)
    → IfSome r (λ v. reverse (drop f (values_of xs)) ≡ value_of v.now ∷ drop 1 (reverse (drop f (values_of xs))))
top_is f xs None lt e = tt
top_is f xs (Some v) lt e = top_value f xs v.now lt (sym e)

-- the last k values alone
pub last_alone : (f k others : ℕ) (xs turned new : List Value) → f + k ≤ length xs → others ≡ length xs - k
    → turned ≡ drop others xs ++ take others xs → new ≡ take k turned
    → values_of new ≡ reverse (take k (reverse (drop f (values_of xs))))
last_alone f k others xs turned new le at turns cuts =
    let m : length (values_of xs) ≡ length xs = long xs in
    let enough : length (drop others xs) ≡ k = omega (arith, length-drop others xs) in
    ap (λ (l : List Value). values_of l) (cuts ∙ ap (take k) turns ∙ take_of_front k (drop others xs) (take others xs) enough) ∙ map-drop value_of others xs
    ∙ sym (ap reverse (top_taken f k others (values_of xs) (omega (arith, m)) (omega (arith, m))) ∙ reverse-reverse (drop others (values_of xs)))

-- The values from some place to others are taken out.
removed : (xs new : List Value) (b start : ℕ) → new ≡ take b xs ++ drop start xs → values_of new ≡ take b (values_of xs) ++ drop start (values_of xs)
removed xs new b start e =
    ap (λ (l : List Value). values_of l) e ∙ map-append value_of (take b xs) (drop start xs)
    ∙ ap (λ (p : List pure.Value). p ++ values_of (drop start xs)) (map-take value_of b xs)
    ∙ ap (λ (p : List pure.Value). take b (values_of xs) ++ p) (map-drop value_of start xs)

pub removed_below : (b c start : ℕ) (xs new : List Value) → c ≤ length (take b (values_of xs)) → new ≡ take b xs ++ drop start xs → take c (values_of new) ≡ take c (take b (values_of xs))
removed_below b c start xs new le e = ap (take c) (removed xs new b start e) ∙ take-append-le c (take b (values_of xs)) (drop start (values_of xs)) le

pub removed_locals : (b c l start : ℕ) (xs new : List Value) → c + l ≤ length (take b (values_of xs)) → new ≡ take b xs ++ drop start xs → take l (drop c (values_of new)) ≡ take l (drop c (take b (values_of xs)))
removed_locals b c l start xs new le e = ap (λ (p : List pure.Value). take l (drop c p)) (removed xs new b start e) ∙ left_locals c l (take b (values_of xs)) (drop start (values_of xs)) le

pub removed_operands : (b c l f k start : ℕ) (xs new : List Value) → c + l ≤ length (take b (values_of xs)) → f + k ≤ length xs → start ≡ length xs - k → new ≡ take b xs ++ drop start xs
    → reverse (drop (c + l) (values_of new)) ≡ take k (reverse (drop f (values_of xs))) ++ reverse (drop (c + l) (take b (values_of xs)))
removed_operands b c l f k start xs new le short at e =
    let m : length (values_of xs) ≡ length xs = long xs in
    ap (λ (p : List pure.Value). reverse (drop (c + l) p)) (removed xs new b start e)
    ∙ left_operands c l f k start (take b (values_of xs)) (values_of xs) le (omega (arith, m)) (omega (arith, m))
