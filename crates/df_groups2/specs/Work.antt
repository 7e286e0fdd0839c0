-- What is left to do of a search.
use Rattle.std.specs.Prelude.{ℕ, suc, ◌+◌, Bool, if◌then◌else◌, List, [], ◌∷◌, length}

-- for each vertex from this number on that is not done, one more than it has edges
abbrev pub work : {A : Type 0} → (A → Bool) → (ℕ → List ℕ) → ℕ → List A → ℕ
work is_done targets from [] = 0
work is_done targets from (x ∷ xs) = (if is_done x then 0 else suc (length (targets from))) + work is_done targets (suc from) xs
