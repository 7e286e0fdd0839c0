-- Numbers and truths of nodes, wherever they come from.
use Rattle.std.specs.Prelude.{◌≡◌, ℕ, ℤ, ◌+ℤ◌, ◌*ℤ◌, int_le, Bool, not, ◌||◌, List, [], ◌∷◌, slice_get, Some}
use Rattle.std.specs.List.{list_all, list_any}
use Rattle.std.specs.Ordering.{int_eq}
use Rattle.df_form.specs.declared.node.Sort.TheVariants as sorts
use Rattle.df_form.specs.declared.node.Op.TheVariants as ops
use Rattle.df_form.specs.Node.{Node}
use Rattle.df_form.specs.Sorting.{sort_at}
use Rattle.df_meaning.specs.Value.{same_truth}
use Rattle.df_row.specs.Row.{literal_number}

-- Literals, sums and constant multiples have the numbers that their parts give them; other numbers are free.
pub record IsExact (nodes : List Node) (v : ℕ → ℤ) : Type 0 where
  pub literal : (n : ℕ) (k : ℤ) (parts : List ℕ) → slice_get nodes n ≡ Some (record { op = ops.Number k; parts = parts }) → v n ≡ k
  pub plus : (n a b : ℕ) → slice_get nodes n ≡ Some (record { op = ops.Plus; parts = a ∷ b ∷ [] }) → v n ≡ v a +ℤ v b
  pub multiple : (n a b : ℕ) (k : ℤ) → slice_get nodes n ≡ Some (record { op = ops.Times; parts = a ∷ b ∷ [] }) → literal_number (slice_get nodes a) ≡ Some k → v n ≡ k *ℤ v b

-- And comparisons, equalities of numbers and connectives have the truths that their parts give them; other truths are free.
pub record IsReading (nodes : List Node) (v : ℕ → ℤ) (t : ℕ → Bool) : Type 0 where
  pub exact : IsExact nodes v
  pub at_most : (n a b : ℕ) → slice_get nodes n ≡ Some (record { op = ops.AtMost; parts = a ∷ b ∷ [] }) → t n ≡ int_le (v a) (v b)
  pub equal : (n a b : ℕ) → slice_get nodes n ≡ Some (record { op = ops.Equal; parts = a ∷ b ∷ [] }) → sort_at nodes a ≡ sorts.Number → t n ≡ int_eq (v a) (v b)
  pub negated : (n p : ℕ) → slice_get nodes n ≡ Some (record { op = ops.Not; parts = p ∷ [] }) → t n ≡ not (t p)
  pub all : (n : ℕ) (parts : List ℕ) → slice_get nodes n ≡ Some (record { op = ops.And; parts = parts }) → t n ≡ list_all t parts
  pub any : (n : ℕ) (parts : List ℕ) → slice_get nodes n ≡ Some (record { op = ops.Or; parts = parts }) → t n ≡ list_any t parts
  pub implied : (n p q : ℕ) → slice_get nodes n ≡ Some (record { op = ops.Implies; parts = p ∷ q ∷ [] }) → t n ≡ (not (t p) || t q)
  pub alike : (n p q : ℕ) → slice_get nodes n ≡ Some (record { op = ops.Iff; parts = p ∷ q ∷ [] }) → t n ≡ same_truth (t p) (t q)
