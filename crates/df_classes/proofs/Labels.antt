-- Labels of classes are those of the least congruence.
use Rattle.std.proofs.Common.{ℕ, List, refl, sym, ◌∙◌}
use Rattle.std.specs.List.{AllZip}
use Rattle.df_form.specs.declared.log.Pair.{Pair}
use Rattle.df_form.specs.Node.{Node}
use Rattle.df_classes.specs.Equal.{AreEqual, AreAllEqual, named, itself, turned, through, applied, none, both}
use Rattle.df_classes.specs.Labels.{HaveOneLabel, AreLabels}
use Rattle.df_classes.specs.Laws.{LabelsAreExact}

module _ (nodes : List Node) (pairs : List Pair) (label : ℕ → ℕ) (are : AreLabels nodes pairs label) where
  mutual
    labelled : (a b : ℕ) → AreEqual nodes pairs a b → HaveOneLabel label a b
    labelled a b (named {pair} there) = are.sides pair there
    labelled a b itself = refl
    labelled a b (turned h) = sym (labelled b a h)
    labelled a b (through {b = m} h k) = labelled a m h ∙ labelled m b k
    labelled a b (applied {first} {second} left right op all) = are.operations a b first second left right op (all_labelled first.parts second.parts all)

    all_labelled : (xs ys : List ℕ) → AreAllEqual nodes pairs xs ys → AllZip (HaveOneLabel label) xs ys
    all_labelled xs ys none = tt
    all_labelled xs ys (both {a} {b} {xs = us} {ys = vs} h more) = (labelled a b h, all_labelled us vs more)

pub labels_are_exact : LabelsAreExact
labels_are_exact nodes pairs label are a b = (are.equal a b, labelled nodes pairs label are a b)
