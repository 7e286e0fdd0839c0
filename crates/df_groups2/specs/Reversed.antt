-- Graphs backwards.
use Rattle.std.specs.Prelude.{◌≡◌, ◌<◌, ◌⊎◌, ℕ, List, length, Contains}
use Rattle.df_groups2.specs.Graph.{targets_in}

-- the edges of the one graph are those of the other, backwards
pub record IsReversed (graph back : List (List ℕ)) : Type 0 where
  pub each : length back ≡ length graph
  pub turned : (source target : ℕ) → target < length graph → Contains (targets_in graph source) target → Contains (targets_in back target) source
  pub only : (source target : ℕ) → Contains (targets_in back target) source → Contains (targets_in graph source) target

-- edges from some vertices to one are added
pub record AddsEdges (old new : List (List ℕ)) (sources : List ℕ) (target : ℕ) : Type 0 where
  pub each : length new ≡ length old
  pub keeps : (one other : ℕ) → Contains (targets_in old one) other → Contains (targets_in new one) other
  pub adds : (source : ℕ) → source < length old → Contains sources source → Contains (targets_in new source) target
  pub only : (one other : ℕ) → Contains (targets_in new one) other → Contains (targets_in old one) other ⊎ (Contains sources one × (other ≡ target))
