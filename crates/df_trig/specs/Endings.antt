-- Nodes by their last parts.
use Rattle.std.specs.Prelude.{◌≡◌, ℕ, ◌==◌, ◌<◌, ◌≤◌, Bool, false, List, [], ◌∷◌, filter, take, length, slice_get, Option, None, Some}
use Rattle.std.specs.Option.{option_and_then, option_map_or}
use Rattle.std.specs.List.{range_with_len}
use Rattle.df_form.specs.Node.{Node}
use Rattle.df_classes.specs.mirror.State.{list_at}

abbrev pub last_of : List ℕ → Option ℕ
last_of [] = None
last_of (n ∷ []) = Some n
last_of (m ∷ n ∷ others) = last_of (n ∷ others)

-- the last part of the node of a number
abbrev pub last_part : List Node → ℕ → Option ℕ
last_part nodes n = option_and_then (λ (node : Node). last_of node.parts) (slice_get nodes n)

abbrev pub is_part : Option ℕ → ℕ → Bool
is_part last part = option_map_or (λ n. n == part) last false

abbrev pub ends_in : List Node → ℕ → ℕ → Bool
ends_in nodes part n = is_part (last_part nodes n) part

-- the nodes below a count whose last part this is, in order
abbrev pub ending_in : List Node → ℕ → ℕ → List ℕ
ending_in nodes count part = filter (ends_in nodes part) (range_with_len 0 count)

-- for each node those of the first nodes, so many, whose last part it is
pub record AreEndings (nodes : List Node) (count : ℕ) (lists : List (List ℕ)) : Type 0 where
  pub long : length lists ≡ length nodes
  pub at : (part : ℕ) → part < length nodes → list_at lists part ≡ ending_in nodes count part

-- the lists are those of the first nodes, as many as there are lists
pub record IndexFronts (nodes : List Node) (lists : List (List ℕ)) : Type 0 where
  pub within : length lists ≤ length nodes
  pub are : AreEndings (take (length lists) nodes) (length lists) lists
