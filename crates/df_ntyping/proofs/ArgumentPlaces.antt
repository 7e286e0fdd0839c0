-- The places that arguments go to, from a number on: the first of them, and the others.
use Rattle.std.proofs.Common.{◌≡◌, ℕ, zero, suc, ◌+◌, List, [], ◌∷◌, map, drop, slice_get, Some, refl, ap, ◌∙◌}
use Rattle.std.proofs.lemmas.List.{drop-drop}
use Rattle.df_lang.specs.declared.ty.Ty.{Ty}
use Rattle.df_ntyping.specs.ExprNodes.{first_place, other_places}

pub first_at : (places : List Ty) (i : ℕ) → first_place (map Some (drop i places)) ≡ slice_get places i
first_at [] zero = refl
first_at [] (suc i) = refl
first_at (ty ∷ others) zero = refl
first_at (ty ∷ others) (suc i) = first_at others i

others_of : (types : List Ty) → other_places (map Some types) ≡ map Some (drop 1 types)
others_of [] = refl
others_of (ty ∷ others) = refl

pub others_at : (places : List Ty) (i : ℕ) → other_places (map Some (drop i places)) ≡ map Some (drop (i + 1) places)
others_at places i = others_of (drop i places) ∙ ap (map Some) (drop-drop 1 i places)
