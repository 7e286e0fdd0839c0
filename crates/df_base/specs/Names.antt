-- The texts of names, in order of first use.
use Rattle.std.specs.Prelude.{◌≡◌, ℕ, List, [], ◌∷◌, ◌++◌, slice_get, Bool, Some, cond, nat_eq}
use Rattle.std.specs.List.{list_any}
use Rattle.std.specs.Cmp.Lexicographic.{pointwise}

-- two texts are the same
abbrev pub same_text : List ℕ → List ℕ → Bool
same_text a b = pointwise nat_eq a b

-- the texts, once this one is among them
abbrev pub with_text : List (List ℕ) → List ℕ → List (List ℕ)
with_text texts text = cond (list_any (same_text text) texts) texts (texts ++ text ∷ [])

-- no text stands twice
abbrev pub IsDistinct : List (List ℕ) → Type 0
IsDistinct texts = (i j : ℕ) (text : List ℕ) → slice_get texts i ≡ Some text → slice_get texts j ≡ Some text → i ≡ j
