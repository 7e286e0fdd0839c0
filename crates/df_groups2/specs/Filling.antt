-- How a group is filled.
use Rattle.std.specs.Prelude.{◌≡◌, ◌+◌, ℕ, List, [], ◌∷◌, ◌++◌, length, Contains, slice_index_or, Option, None, Some}
use Rattle.std.specs.Option.{is_some}
use Rattle.df_groups2.specs.Work.{work}

-- the group of a vertex, if it has one; a vertex past the last counts as one of group 0
abbrev pub group_in : List (Option ℕ) → ℕ → Option ℕ
group_in groups vertex = slice_index_or groups vertex (Some 0)

-- a path whose vertices have no group
pub data FreePath (targets : ℕ → List ℕ) (groups : List (Option ℕ)) : ℕ → ℕ → Type 0 where
  start : {vertex : ℕ} → group_in groups vertex ≡ None → FreePath targets groups vertex vertex
  further : {root source target : ℕ} → FreePath targets groups root source → Contains (targets source) target → group_in groups target ≡ None → FreePath targets groups root target

-- A group takes the vertices that are reached from a root and had none: those so far, and what is still pending. The old groups are those before
-- it began.
pub record IsFilling (targets : ℕ → List ℕ) (root group : ℕ) (old new : List (Option ℕ)) (pending : List ℕ) : Type 0 where
  pub each : length new ≡ length old
  pub stays : (vertex k : ℕ) → group_in old vertex ≡ Some k → group_in new vertex ≡ Some k
  pub begun : group_in new root ≡ None → Contains pending root
  pub joins : (vertex k : ℕ) → group_in old vertex ≡ None → group_in new vertex ≡ Some k → k ≡ group
  pub found : (vertex k : ℕ) → group_in old vertex ≡ None → group_in new vertex ≡ Some k → FreePath targets old root vertex
  pub shut : (source target k : ℕ) → group_in old source ≡ None → group_in new source ≡ Some k → Contains (targets source) target → group_in new target ≡ None → Contains pending target
  pub awaited : (vertex : ℕ) → Contains pending vertex → group_in old vertex ≡ None → FreePath targets old root vertex

-- a pending vertex is taken: what is known with it is known then of those that are pending
abbrev pub TakesPending : (ℕ → List ℕ) → ℕ → ℕ → List (Option ℕ) → List ℕ → List (Option ℕ) → List ℕ → Type 0
TakesPending targets group vertex groups pending new left = (root : ℕ) (old : List (Option ℕ)) → IsFilling targets root group old groups (pending ++ vertex ∷ []) → IsFilling targets root group old new left

abbrev pub filling_work : (ℕ → List ℕ) → List (Option ℕ) → List ℕ → ℕ
filling_work targets groups pending = work (λ (group : Option ℕ). is_some group) targets 0 groups + length pending
