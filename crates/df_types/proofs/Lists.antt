-- Types of two lists, side by side.
use Rattle.std.proofs.Common.{◌≡◌, ◌≤◌, ℕ, Bool, true, false, ◌&&◌, List, [], ◌∷◌, map, drop, length, refl, ap, ◌∙◌, arith}
use Rattle.std.proofs.lemmas.List.{drop_all}
use Rattle.df_types.specs.Ty.{Ty, same_type, same_types, no_ty, tys_of}

-- lists of two lengths are not the same
pub unequal : {A : Type 0} (f : A → Ty) (xs ys : List A) → (length xs ≡ length ys → ⊥) → false ≡ same_types (tys_of (map f xs)) (tys_of (map f ys))
unequal f [] [] h = absurd (h refl)
unequal f [] (y ∷ ys) h = refl
unequal f (x ∷ xs) [] h = refl
unequal f (x ∷ xs) (y ∷ ys) h = by_first (same_type (f x) (f y)) (unequal f xs ys (λ e. h (omega (arith, e))))
  where
    by_first : (b : Bool) → false ≡ same_types (tys_of (map f xs)) (tys_of (map f ys)) → false ≡ (b && same_types (tys_of (map f xs)) (tys_of (map f ys)))
    by_first true e = e
    by_first false e = refl

-- at the end of both they are
pub both_done : {A : Type 0} (f : A → Ty) (xs ys : List A) (n : ℕ) → length xs ≤ n → length ys ≤ n → same_types (tys_of (map f (drop n xs))) (tys_of (map f (drop n ys))) ≡ true
both_done f xs ys n h k = ap (λ zs. same_types (tys_of (map f zs)) (tys_of (map f (drop n ys)))) (drop_all n xs h) ∙ ap (λ zs. same_types no_ty (tys_of (map f zs))) (drop_all n ys k)
