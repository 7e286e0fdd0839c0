-- Directed graphs: for each vertex, by its number, the targets of the edges from it.
use Rattle.std.specs.Prelude.{ℕ, List, [], Contains, slice_index_or}

-- in lists of targets, those of a vertex; one past the last has none
abbrev pub targets_in : List (List ℕ) → ℕ → List ℕ
targets_in lists vertex = slice_index_or lists vertex []

-- the one comes to the other by edges: none, or one and then others
pub data Path (targets : ℕ → List ℕ) : ℕ → ℕ → Type 0 where
  stay : {vertex : ℕ} → Path targets vertex vertex
  along : {source target other : ℕ} → Contains (targets source) target → Path targets target other → Path targets source other
