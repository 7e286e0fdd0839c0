-- In which order a depth-first search leaves the vertices of a graph.
use Rattle.std.specs.Prelude.{◌≡◌, ℕ, List, [], ◌∷◌, ◌++◌, Contains}
use Rattle.df_groups2.specs.Graph.{Path}

-- Of the vertices that are left before one, the later ones are reached from it; no edge goes from the others to it or to these.
pub record IsLeftAfter (targets : ℕ → List ℕ) (vertex : ℕ) (before : List ℕ) : Type 0 where
  pub late : List ℕ
  pub early : List ℕ
  pub split : before ≡ late ++ early
  pub reached : (other : ℕ) → Contains late other → Path targets vertex other
  pub apart : (one other : ℕ) → Contains early one → Contains (vertex ∷ late) other → Contains (targets one) other → ⊥

-- from the last one to the first
abbrev pub IsFinishingOrder : (ℕ → List ℕ) → List ℕ → Type 0
IsFinishingOrder targets [] = Unit {0}
IsFinishingOrder targets (vertex ∷ before) = IsLeftAfter targets vertex before × IsFinishingOrder targets before
