-- A text parted at each separator.
use Rattle.std.specs.Prelude.{ℕ, ◌==◌, List, [], ◌∷◌, ◌++◌, if◌then◌else◌}

-- the parts, where these bytes stand before the text in the first one
abbrev pub parted_from : ℕ → List ℕ → List ℕ → List (List ℕ)
parted_from separator before [] = before ∷ []
parted_from separator before (b ∷ bs) = if b == separator then before ∷ parted_from separator [] bs else parted_from separator (before ++ b ∷ []) bs

abbrev pub parted : ℕ → List ℕ → List (List ℕ)
parted separator text = parted_from separator [] text
