-- The values of nodes under an assignment are a reading.
use Rattle.std.proofs.Common.{◌≡◌, ℕ, ℤ, ◌*ℤ◌, int_le, int_eq, Bool, true, ◌&&◌, List, [], ◌∷◌, Option, Some, None, slice_get, refl, sym, ap, ◌∙◌, arith}
use Rattle.std.proofs.lemmas.Int.{ints}
use Rattle.std.proofs.lemmas.Bool.Decides.{Decides-int_eq, same_from_decides}
use Rattle.std.proofs.lemmas.Bool.{and_from, and_parts}
use Rattle.std.proofs.lemmas.List.Folds.{list_all-map}
use Rattle.std.proofs.lemmas.Option.{same_Some}
use Rattle.df_lemmas.proofs.Lists.{any_mapped}
use Rattle.df_form.specs.World.{World}
use Rattle.df_meaning.specs.Value.{truth_of}
use Rattle.df_form.specs.declared.node.Sort.TheVariants as sorts
use Rattle.df_form.specs.declared.node.Op.{Op}
use Rattle.df_form.specs.declared.node.Op.TheVariants as ops
use Rattle.df_form.specs.Node.{Node}
use Rattle.df_form.specs.Sorting.{sort_at}
use Rattle.df_form.specs.Truth.{Assignment, truth}
use Rattle.df_form.proofs.Values.{AreSorted, parts_taken, worth}
use Rattle.df_form.proofs.Same.{values_alike}
use Rattle.df_row.specs.Row.{number_of_op, literal_number}
use Rattle.df_rules.proofs.SoundConnectives.{node_truth, at_most_truth, equal_truth}
use Rattle.df_rules.proofs.SoundLinear.{numbers_are}
use Rattle.df_rules.proofs.SoundRows.{two_below}
use Rattle.df_closure.specs.Reading.{IsExact, IsReading}
use Rattle.df_closure.specs.Comparisons.{numbers_of}

-- equality of numbers is both ways of <=
pub equal_is_both : (a b : ℤ) → int_eq a b ≡ (int_le a b && int_le b a)
equal_is_both a b = same_from_decides (int_eq a b) (int_le a b && int_le b a) (Decides-int_eq a b) (from_both, both_from)
  where
    from_both : (int_le a b && int_le b a) ≡ true → a ≡ b
    from_both e = let parts = and_parts (int_le a b) (int_le b a) e in omega (arith, ints, parts.0, parts.1)

    both_from : a ≡ b → (int_le a b && int_le b a) ≡ true
    both_from e = and_from (int_le a b) (int_le b a) (grind (arith, ints)) (grind (arith, ints))

module _ (depth : ℕ) (world : World) (assignment : Assignment) (nodes : List Node) (sorted : AreSorted nodes) where
  abbrev v : ℕ → ℤ
  v n = numbers_of depth world assignment nodes n

  abbrev IsTrue : ℕ → Bool
  IsTrue n = truth depth world assignment nodes n

  factor_is : (a : ℕ) (o : Option Node) (k : ℤ) → slice_get nodes a ≡ o → literal_number o ≡ Some k → v a ≡ k
  factor_is a None k at e = absurd cc
  factor_is a (Some node) k at e = by node.op node.parts at e
    where
      by : (op : Op) (parts : List ℕ) → slice_get nodes a ≡ Some (record { op = op; parts = parts }) → number_of_op op ≡ Some k → v a ≡ k
      by (ops.Number j) parts at e = (numbers_are depth world assignment nodes sorted).literal a j parts at ∙ same_Some j k e
      by op parts at e = absurd cc

  values_exact : IsExact nodes v
  values_exact = record {
    literal = (numbers_are depth world assignment nodes sorted).literal;
    plus = (numbers_are depth world assignment nodes sorted).plus;
    multiple = λ n a b k at factor. (numbers_are depth world assignment nodes sorted).times n a b at ∙ ap (λ z. z *ℤ v b) (factor_is a (slice_get nodes a) k refl factor);
  }

  pub equality_true : (n a b : ℕ) → slice_get nodes n ≡ Some (record { op = ops.Equal; parts = a ∷ b ∷ [] }) → sort_at nodes a ≡ sorts.Number → IsTrue n ≡ int_eq (v a) (v b)
  equality_true n a b at sort =
      let node : Node = record { op = ops.Equal; parts = a ∷ b ∷ [] } in
      let under = two_below nodes v (numbers_are depth world assignment nodes sorted) n a b ops.Equal at in
      let alike = values_alike (sort_at nodes a) (sort_at nodes b) (parts_taken nodes n node sorted at) in
      equal_truth depth world assignment nodes n a b sorted at (record { below = under.0; sort = sort }) (record { below = under.1; sort = sym alike ∙ sort }) ∙ sym (equal_is_both (v a) (v b))

  pub values_read : IsReading nodes v IsTrue
  values_read = record {
    exact = values_exact;
    at_most = λ n a b at. at_most_truth depth world assignment nodes n a b sorted at;
    equal = equality_true;
    negated = λ n p at. node_truth depth world assignment nodes n (record { op = ops.Not; parts = p ∷ [] }) sorted at;
    all = λ n parts at. node_truth depth world assignment nodes n (record { op = ops.And; parts = parts }) sorted at ∙ list_all-map truth_of (worth depth world assignment nodes) parts;
    any = λ n parts at. node_truth depth world assignment nodes n (record { op = ops.Or; parts = parts }) sorted at ∙ any_mapped truth_of (worth depth world assignment nodes) parts;
    implied = λ n p q at. node_truth depth world assignment nodes n (record { op = ops.Implies; parts = p ∷ q ∷ [] }) sorted at;
    alike = λ n p q at. node_truth depth world assignment nodes n (record { op = ops.Iff; parts = p ∷ q ∷ [] }) sorted at;
  }
