-- Labels of classes.
use Rattle.std.specs.Prelude.{◌≡◌, ℕ, List, slice_get, Some, Contains}
use Rattle.std.specs.List.{AllZip}
use Rattle.df_form.specs.declared.log.Pair.{Pair}
use Rattle.df_form.specs.Node.{Node}
use Rattle.df_classes.specs.Equal.{AreEqual}

abbrev pub HaveOneLabel : (ℕ → ℕ) → ℕ → ℕ → Type 0
HaveOneLabel label a b = label a ≡ label b

-- Equal nodes alone have one label; the sides of pairs have, and any two nodes of one operation whose arguments have.
pub record AreLabels (nodes : List Node) (pairs : List Pair) (label : ℕ → ℕ) : Type 0 where
  pub equal : (a b : ℕ) → HaveOneLabel label a b → AreEqual nodes pairs a b
  pub sides : (pair : Pair) → Contains pairs pair → HaveOneLabel label pair.left pair.right
  pub operations : (a b : ℕ) (first second : Node) → slice_get nodes a ≡ Some first → slice_get nodes b ≡ Some second → first.op ≡ second.op → AllZip (HaveOneLabel label) first.parts second.parts → HaveOneLabel label a b
