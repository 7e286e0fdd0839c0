-- Places keep their nodes when others are added.
use Rattle.std.proofs.Common.{◌≡◌, ℕ, zero, suc, List, [], ◌∷◌, ◌++◌, map, length, get_or, Some, slice_get, sym, ap, ◌∙◌}
use Rattle.std.proofs.lemmas.Option.{same_Some, slice_get-get_or, slice_get_within}
use Rattle.df_lemmas.proofs.Lists.{get_grown, get_last}
use Rattle.df_meaning.specs.Value.{Value}
use Rattle.df_form.specs.Truth.{value_at}
use Rattle.df_axiom.specs.Instance.{place_at}

pub kept_place : (all before rest : List ℕ) (i n : ℕ) → all ≡ before ++ rest → slice_get before i ≡ Some n → slice_get all i ≡ Some n
kept_place all before rest i n e at = ap (λ (l : List ℕ). slice_get l i) e ∙ get_grown before rest i n at

pub last_place : (all before rest : List ℕ) (n : ℕ) → all ≡ (before ++ n ∷ []) ++ rest → slice_get all (length before) ≡ Some n
last_place all before rest n e = kept_place all (before ++ n ∷ []) rest (length before) n e (get_last before n)

pub place_is : (all : List ℕ) (i n : ℕ) → slice_get all i ≡ Some n → place_at all i ≡ n
place_is all i n at = same_Some (get_or all i 0) n (sym (slice_get-get_or all i 0 (slice_get_within all i n at)) ∙ at)

pub part_value : (f : ℕ → Value) (parts : List ℕ) (k n : ℕ) → slice_get parts k ≡ Some n → value_at (map f parts) k ≡ f n
part_value f [] k n e = absurd cc
part_value f (x ∷ xs) zero n e = ap f (same_Some x n e)
part_value f (x ∷ xs) (suc k) n e = part_value f xs k n e
