-- What congruence tells of the literals that are held.
use Rattle.std.proofs.Common.{◌≡◌, ℕ, List, map, sym, subst}
use Rattle.df_form.specs.declared.log.Lit.{Lit}
use Rattle.df_form.specs.Node.{Node}
use Rattle.df_form.specs.Clause.{negation}
use Rattle.df_classes.specs.declared.partition.Partition.{Partition}
use Rattle.df_classes.specs.declared.holding.Level.{Level}
use Rattle.df_classes.specs.Equal.{IsContradicted}
use Rattle.df_classes.specs.PartitionView.{state_of}
use Rattle.df_classes.specs.HoldingView.{held_equalities, IsHolding}
use Rattle.df_cong.specs.Congruence.{HasLabels}
use Rattle.df_classes.proofs.Standing.{standing_labels}

-- where they contradict nothing, the classes have their labels
pub labels_of_held : (nodes : List Node) (literals : List Lit) (levels : List Level) (p : Partition) (labels : List ℕ) → IsHolding nodes literals levels p → labels ≡ (state_of p).labels → (IsContradicted nodes (map negation literals) → ⊥) → HasLabels nodes literals labels
labels_of_held nodes literals levels p labels is same quiet =
    subst (HasLabels nodes literals) (sym same) (record {
      long = is.stands.partition.labels_long;
      labels_are = standing_labels nodes (held_equalities nodes literals) p.pairs.items (state_of p) is.stands;
      quiet = quiet;
    })
