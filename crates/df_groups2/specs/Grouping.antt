-- Groups of vertices that are reached from each other.
use Rattle.std.specs.Prelude.{◌≡◌, ◌≤◌, ◌<◌, ℕ, List, ◌∷◌, length, Contains, slice_index_or, Option, None, Some}
use Rattle.df_groups2.specs.Graph.{targets_in, Path}
use Rattle.df_groups2.specs.Reversed.{IsReversed}
use Rattle.df_groups2.specs.Finishing.{IsFinishingOrder}
use Rattle.df_groups2.specs.Filling.{group_in}

-- What is known of so many groups while the vertices in the order are still to be looked at: from a vertex with a group each edge goes to one
-- with a group that is no later, and vertices of one group are reached from each other.
pub record IsGrouping (targets back : ℕ → List ℕ) (vertices : ℕ) (order : List ℕ) (count : ℕ) (groups : List (Option ℕ)) : Type 0 where
  pub each : length groups ≡ vertices
  pub finishing : IsFinishingOrder back order
  pub awaited : (vertex : ℕ) → group_in groups vertex ≡ None → Contains order vertex
  pub below : (vertex k : ℕ) → vertex < vertices → group_in groups vertex ≡ Some k → k < count
  pub shut : (source target k : ℕ) → source < vertices → group_in groups source ≡ Some k → Contains (targets source) target → group_in groups target ≡ None → ⊥
  pub ordered : (source target k m : ℕ) → source < vertices → group_in groups source ≡ Some k → Contains (targets source) target → group_in groups target ≡ Some m → m ≤ k
  pub apart : (one other k : ℕ) → one < vertices → other < vertices → group_in groups one ≡ Some k → group_in groups other ≡ Some k → Path targets one other

-- A root is looked at: what is known with it in front of the others is known then of the others.
abbrev pub LooksAt : List (List ℕ) → ℕ → ℕ → List (Option ℕ) → ℕ → List (Option ℕ) → Type 0
LooksAt graph root count groups new_count new =
    (back : List (List ℕ)) (before : List ℕ) → IsReversed graph back → IsGrouping (targets_in graph) (targets_in back) (length graph) (root ∷ before) count groups
    → IsGrouping (targets_in graph) (targets_in back) (length graph) before new_count new

-- An edge goes to a group that is no later, and vertices of one group are reached from each other.
pub record AreComponents (targets : ℕ → List ℕ) (vertices : ℕ) (groups : List ℕ) : Type 0 where
  pub each : length groups ≡ vertices
  pub ordered : (source target : ℕ) → source < vertices → Contains (targets source) target → slice_index_or groups target 0 ≤ slice_index_or groups source 0
  pub apart : (one other : ℕ) → one < vertices → other < vertices → slice_index_or groups one 0 ≡ slice_index_or groups other 0 → Path targets one other
