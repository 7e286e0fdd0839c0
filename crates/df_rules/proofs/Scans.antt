-- Loops over lists.
use Rattle.std.proofs.Common.{◌≡◌, ℕ, suc, ◌+◌, ◌<◌, Bool, true, false, ◌&&◌, ◌||◌, List, ◌∷◌, drop, length, get_or, Option, None, Some, refl, sym, ap, ◌∙◌, add-one, drop-cons}
use Rattle.std.specs.List.{list_any}
use Rattle.std.specs.Option.{option_or}
use Rattle.std.specs.Cmp.Lexicographic.{pointwise}

module _ {A : Type 0} (xs : List A) (i : ℕ) (d x : A) (less : i < length xs) (at : get_or xs i d ≡ x) where
  -- what is left begins with the element
  pub left_here : drop i xs ≡ x ∷ drop (i + 1) xs
  left_here = rw (add-one) (drop-cons xs i d less ∙ ap (λ (y : A). y ∷ drop (suc i) xs) at)

  pub any_found : (test : A → Bool) → list_any test xs ≡ list_any test (drop i xs) → test x ≡ true → true ≡ list_any test xs
  any_found test so_far e = sym (so_far ∙ ap (list_any test) left_here ∙ ap (λ b. b || list_any test (drop (i + 1) xs)) e)

  pub any_next : (test : A → Bool) → list_any test xs ≡ list_any test (drop i xs) → test x ≡ false → list_any test xs ≡ list_any test (drop (i + 1) xs)
  any_next test so_far e = so_far ∙ ap (list_any test) left_here ∙ ap (λ b. b || list_any test (drop (i + 1) xs)) e

or_moved : (a b c d : Bool) → d ≡ (b || a) → (a || (b || c)) ≡ (d || c)
or_moved a true c d e = (λ i. true_or a i) ∙ ap (λ v. v || c) (sym e)
  where
    true_or : (a : Bool) → (a || true) ≡ true
    true_or true = refl
    true_or false = refl
or_moved a false c d e = ap (λ v. v || c) (sym e)

-- some more elements are collected
pub any_added : {A : Type 0} (xs : List A) (i : ℕ) (d x : A) → i < length xs → get_or xs i d ≡ x → (test : A → Bool) (has more : Bool) → list_any test xs ≡ (has || list_any test (drop i xs)) → more ≡ (test x || has)
    → list_any test xs ≡ (more || list_any test (drop (i + 1) xs))
any_added xs i d x less at test has more so_far e =
    so_far ∙ ap (λ (ys : List _). has || list_any test ys) (left_here xs i d x less at) ∙ or_moved has (test x) (list_any test (drop (i + 1) xs)) more e

pub option_moved : {A : Type 0} (a b c d : Option A) → d ≡ option_or b c → option_or (option_or a b) c ≡ option_or a d
option_moved None b c d e = sym e
option_moved (Some x) b c d e = refl

-- two lists side by side
module _ {A : Type 0} (same : A → A → Bool) (xs ys : List A) (i : ℕ) (d x e y : A) (less : i < length xs) (at : get_or xs i d ≡ x) (below : i < length ys) (there : get_or ys i e ≡ y)
    (so_far : pointwise same xs ys ≡ pointwise same (drop i xs) (drop i ys)) where
  pair_here : pointwise same xs ys ≡ (same x y && pointwise same (drop (i + 1) xs) (drop (i + 1) ys))
  pair_here = so_far ∙ (λ k. pointwise same (left_here xs i d x less at k) (left_here ys i e y below there k))

  pub pair_differs : same x y ≡ false → false ≡ pointwise same xs ys
  pair_differs f = sym (pair_here ∙ ap (λ b. b && pointwise same (drop (i + 1) xs) (drop (i + 1) ys)) f)

  pub pair_next : same x y ≡ true → pointwise same xs ys ≡ pointwise same (drop (i + 1) xs) (drop (i + 1) ys)
  pair_next f = pair_here ∙ ap (λ b. b && pointwise same (drop (i + 1) xs) (drop (i + 1) ys)) f
