use Rattle.std.proofs.Common.{◌≡◌, ℕ, ◌<◌, ◌≤◌, false, slice_get}
use Rattle.df_classes.specs.mirror.State.{label_of}
use Rattle.df_classes.specs.PartitionView.{state_of}
use Rattle.df_classes.specs.SignsView.{tables_of, clashes_by}
use Rattle.df_classes.proofs.signs.Signs.clashes_from.Given as goal

abbrev pub invariant-loop-place : goal.invariant-loop-place
invariant-loop-place l =
    (p : ℕ) → l.from ≤ p → p < l.place → clashes_by l.nodes l.users (label_of (state_of l.partition)) l.held (tables_of l.self) (slice_get l.partition.trail.items p) ≡ false
