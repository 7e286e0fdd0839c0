use Rattle.std.proofs.Common.{◌≡◌, drop}
use Rattle.std.specs.Cmp.Lexicographic.{pointwise}
use Rattle.df_rules.specs.Classes.{is_together}
use Rattle.df_classes.specs.mirror.State.{label_of}
use Rattle.df_classes.specs.PartitionView.{state_of}
use Rattle.df_classes.proofs.closing.have_one_label.Given as goal

abbrev pub invariant-loop-place : goal.invariant-loop-place
invariant-loop-place l =
    let label = label_of (state_of l.partition) in pointwise (is_together label) l.first l.second ≡ pointwise (is_together label) (drop l.place l.first) (drop l.place l.second)
