-- What congruence tells of literals.
use Rattle.std.specs.Prelude.{◌≡◌, ℕ, List, length, get_or, map}
use Rattle.df_form.specs.declared.log.Lit.{Lit}
use Rattle.df_form.specs.Node.{Node}
use Rattle.df_form.specs.Clause.{negation}
use Rattle.df_cong.specs.declared.answer.Congruence.{Congruence}
use Rattle.df_cong.specs.declared.answer.Congruence.TheVariants as told
use Rattle.df_classes.specs.Equal.{IsContradicted}
use Rattle.df_classes.specs.Labels.{AreLabels}
use Rattle.df_classes.specs.HoldingView.{held_equalities}
use Rattle.df_cong.specs.Theory.{IsReason}

-- what is no node has a label of its own
abbrev pub label_at : List ℕ → ℕ → ℕ
label_at labels n = get_or labels n n

-- A label for each node, the same exactly for nodes that the equalities among the literals make equal. They contradict no literal.
pub record HasLabels (nodes : List Node) (literals : List Lit) (labels : List ℕ) : Type 0 where
  pub long : length labels ≡ length nodes
  pub labels_are : AreLabels nodes (held_equalities nodes literals) (label_at labels)
  pub quiet : IsContradicted nodes (map negation literals) → ⊥

abbrev pub TellsCongruence : List Node → List Lit → Congruence → Type 0
TellsCongruence nodes literals (told.Contradicted reason) = IsReason nodes literals reason
TellsCongruence nodes literals (told.Labels labels) = HasLabels nodes literals labels.items
