-- What labels of classes come to.
use Rattle.std.specs.Prelude.{◌↔◌, ℕ, List}
use Rattle.df_form.specs.declared.log.Pair.{Pair}
use Rattle.df_form.specs.Node.{Node}
use Rattle.df_classes.specs.Equal.{AreEqual}
use Rattle.df_classes.specs.Labels.{HaveOneLabel, AreLabels}

-- Labels of classes that are closed under operations are those of the least congruence.
abbrev pub LabelsAreExact : Type 0
LabelsAreExact = (nodes : List Node) (pairs : List Pair) (label : ℕ → ℕ) → AreLabels nodes pairs label → (a b : ℕ) → HaveOneLabel label a b ↔ AreEqual nodes pairs a b
