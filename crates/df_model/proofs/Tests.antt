-- Tests of all elements, by places.
use Rattle.std.proofs.Common.{◌≡◌, ℕ, zero, suc, Bool, true, List, [], ◌∷◌, Some, slice_get, refl, sym, ap, ◌∙◌}
use Rattle.std.specs.List.{list_all}
use Rattle.std.proofs.lemmas.Bool.{and_from, and_parts}
use Rattle.std.proofs.lemmas.Option.{same_Some}

pub each_passes : {A : Type 0} (test : A → Bool) (xs : List A) → ((i : ℕ) (x : A) → slice_get xs i ≡ Some x → test x ≡ true) → list_all test xs ≡ true
each_passes test [] each = refl
each_passes test (x ∷ xs) each = and_from (test x) (list_all test xs) (each 0 x refl) (each_passes test xs (λ i y at. each (suc i) y at))

pub passes_at : {A : Type 0} (test : A → Bool) (xs : List A) (i : ℕ) (x : A) → list_all test xs ≡ true → slice_get xs i ≡ Some x → test x ≡ true
passes_at test [] i x all at = absurd cc
passes_at test (y ∷ xs) zero x all at = ap test (sym (same_Some y x at)) ∙ (and_parts (test y) (list_all test xs) all).0
passes_at test (y ∷ xs) (suc i) x all at = passes_at test xs i x (and_parts (test y) (list_all test xs) all).1 at
