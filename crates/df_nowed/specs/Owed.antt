-- Where the goal of an obligation stands.
use Rattle.std.specs.Prelude.{◌≡◌, ◌≤◌, ℕ, List, length, slice_get, Some}
use Rattle.df_nowed.specs.declared.obligation.Obligation as declared_obligation

-- its goal stands among the formulas at a place that is no later than where they end for it
abbrev pub IsOwed : List ℕ → declared_obligation.Obligation → Type 0
IsOwed known o = (o.hypothesis_count ≤ length known) × (o.place ≤ o.hypothesis_count) × (slice_get known o.place ≡ Some o.goal)
