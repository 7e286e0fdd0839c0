-- Texts one after another, with a separator between each two.
use Rattle.std.specs.Prelude.{ℕ, List, [], ◌∷◌, ◌++◌}
use Rattle.std.specs.List.{flat_map}

-- each of the texts behind a separator
abbrev pub behind : ℕ → List (List ℕ) → List ℕ
behind separator texts = flat_map (λ text. separator ∷ text) texts

abbrev pub joined : ℕ → List (List ℕ) → List ℕ
joined separator [] = []
joined separator (first ∷ others) = first ++ behind separator others
