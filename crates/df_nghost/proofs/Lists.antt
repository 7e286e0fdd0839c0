-- Steps of loops over lists.
use Rattle.std.proofs.Common.{◌≡◌, ◌<◌, ◌+◌, ℕ, List, ◌∷◌, length, drop, get_or, sym, ap, ◌∙◌, suc, add-one, drop-cons}

-- the element at i, and then the rest
pub here : {A : Type 0} (xs : List A) (i : ℕ) (x : A) → i < length xs → x ≡ get_or xs i x → drop i xs ≡ x ∷ drop (i + 1) xs
here xs i x lt is = rw add-one (drop-cons xs i x lt ∙ ap (λ y. y ∷ drop (suc i) xs) (sym is))
