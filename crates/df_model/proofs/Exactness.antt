-- Tables of numbers that operations give are exact.
use Rattle.std.proofs.Common.{◌≡◌, ℕ, ℤ, ◌+ℤ◌, ◌*ℤ◌, int_le, Bool, true, false, List, [], ◌∷◌, map, Option, None, Some, slice_get, refl, sym, ap, ◌∙◌}
use Rattle.std.specs.Ordering.{int_eq}
use Rattle.std.proofs.lemmas.Bool.Decides.{Decides-int_eq}
use Rattle.df_form.specs.World.{World}
use Rattle.df_form.specs.declared.node.Free.{Free}
use Rattle.df_form.specs.declared.node.Op.{Op}
use Rattle.df_form.specs.declared.node.Op.TheVariants as ops
use Rattle.df_form.specs.Node.{Node}
use Rattle.df_meaning.specs.Value.{same_truth}
use Rattle.df_row.specs.Row.{number_of_op, literal_number}
use Rattle.df_table.specs.TableModel.{number_at, is_multiple, is_exact}
use Rattle.df_model.specs.Valuation.{number_of_truth}
use Rattle.df_model.specs.Numbers.{counts_as_true, number_by}
use Rattle.df_model.proofs.Applying.{one_is_true}

same_number : (a b : ℤ) → a ≡ b → int_eq a b ≡ true
same_number a b e = (Decides-int_eq a b).1 e

agrees : (t : Bool) → same_truth t t ≡ true
agrees true = refl
agrees false = refl

-- a truth of 1 or 0 is read as it is
true_where : (z : ℤ) (t : Bool) → z ≡ number_of_truth t → same_truth (counts_as_true z) t ≡ true
true_where z t e = ap (λ y. same_truth (counts_as_true y) t) e ∙ ap (λ b. same_truth b t) (sym (one_is_true t)) ∙ agrees t

module _ (world : World) (free : Free → ℤ) (nodes : List Node) (table : List ℤ)
    (numbers : (n : ℕ) (node : Node) → slice_get nodes n ≡ Some node → number_at table n ≡ number_by world free node.op (map (number_at table) node.parts)) where
  factor_is : (a : ℕ) (op : Op) (parts : List ℕ) (x product : ℤ) → slice_get nodes a ≡ Some (record { op = op; parts = parts }) → number_at table a *ℤ x ≡ product → is_multiple (number_of_op op) x product ≡ true
  factor_is a (ops.Number k) parts x product at e = same_number (k *ℤ x) product (ap (λ z. z *ℤ x) (sym (numbers a (record { op = ops.Number k; parts = parts }) at)) ∙ e)
  factor_is a op parts x product at e = refl

  multiple_is : (a : ℕ) (x product : ℤ) → number_at table a *ℤ x ≡ product → is_multiple (literal_number (slice_get nodes a)) x product ≡ true
  multiple_is a x product e = by (slice_get nodes a) refl
    where
      by : (found : Option Node) → slice_get nodes a ≡ found → is_multiple (literal_number found) x product ≡ true
      by None at = refl
      by (Some node) at = factor_is a node.op node.parts x product at e

  exact_by : (n : ℕ) (op : Op) (parts : List ℕ) → number_at table n ≡ number_by world free op (map (number_at table) parts) → is_exact nodes table n op parts ≡ true
  exact_by n (ops.Number k) parts e = same_number k (number_at table n) (sym e)
  exact_by n ops.Plus (a ∷ b ∷ []) e = same_number (number_at table a +ℤ number_at table b) (number_at table n) (sym e)
  exact_by n ops.Times (a ∷ b ∷ []) e = multiple_is a (number_at table b) (number_at table n) (sym e)
  exact_by n ops.Equal (a ∷ b ∷ []) e = true_where (number_at table n) (int_eq (number_at table a) (number_at table b)) e
  exact_by n ops.AtMost (a ∷ b ∷ []) e = true_where (number_at table n) (int_le (number_at table a) (number_at table b)) e
  exact_by n op parts e = refl

  pub table_is_exact : (n : ℕ) (node : Node) → slice_get nodes n ≡ Some node → is_exact nodes table n node.op node.parts ≡ true
  table_is_exact n node at = exact_by n node.op node.parts (numbers n node at)

  -- one operation at parts with equal numbers has one number
  pub tables_agree : (m n : ℕ) (a b : Node) → slice_get nodes m ≡ Some a → slice_get nodes n ≡ Some b → a.op ≡ b.op → map (number_at table) a.parts ≡ map (number_at table) b.parts → number_at table m ≡ number_at table n
  tables_agree m n a b at other same parts = numbers m a at ∙ (λ i. number_by world free (same i) (parts i)) ∙ sym (numbers n b other)
