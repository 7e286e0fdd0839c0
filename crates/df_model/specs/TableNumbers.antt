-- Numbers of operations by those of their parts, where a table looks into literals, sums, constant multiples, comparisons
-- and connectives alone. A truth counts as 1 or 0, and as true from 1 on.
use Rattle.std.specs.Prelude.{ℕ, ℤ, pos, ◌+ℤ◌, ◌*ℤ◌, int_le, Bool, true, false, not, ◌&&◌, ◌||◌, ◌==◌, List, [], ◌∷◌, map, slice_get, Option, None, Some}
use Rattle.std.specs.List.{list_all, list_any}
use Rattle.std.specs.Ordering.{int_eq}
use Rattle.df_form.specs.declared.log.Lit.{Lit}
use Rattle.df_form.specs.declared.node.Sort.{Sort}
use Rattle.df_form.specs.declared.node.Sort.TheVariants as sorts
use Rattle.df_form.specs.declared.node.Op.{Op}
use Rattle.df_form.specs.declared.node.Op.TheVariants as ops
use Rattle.df_form.specs.Symbol.{filled, given_by}
use Rattle.df_form.specs.Node.{Node}
use Rattle.df_meaning.specs.Value.{same_truth}
use Rattle.df_row.specs.Row.{literal_number}
use Rattle.df_row.specs.RowView.{narrow}
use Rattle.df_table.specs.TableModel.{number_at, is_true}
use Rattle.df_cong.specs.Congruence.{label_at}

-- a truth counts as 1 or 0
abbrev pub number_of_truth : Bool → ℤ
number_of_truth true = pos 1
number_of_truth false = pos 0

abbrev pub counts_as_true : ℤ → Bool
counts_as_true z = int_le (pos 1) z

-- What a table is made from: numbers of nodes that are not looked into, labels that are the same for equal nodes, and
-- whether a formula of a node's label is known to be true.
pub record Basis : Type 0 where
  pub number : ℕ → ℤ
  pub label : ℕ → ℕ
  pub holds : ℕ → Bool

abbrev pub has_true : (ℕ → ℕ) → List Lit → ℕ → Bool
has_true label facts n = list_any (λ (l : Lit). l.positive && label l.node == label n) facts

abbrev pub basis_of : List ℤ → List ℕ → List Lit → Basis
basis_of numbers labels facts = record { number = number_at numbers; label = label_at labels; holds = has_true (label_at labels) facts }

-- a free term or a symbol by its node; a character has its label in the place of a code
abbrev pub free_number : Basis → ℕ → Sort → ℤ
free_number basis n sorts.Number = basis.number n
free_number basis n sorts.Truth = number_of_truth (basis.holds n)
free_number basis n sorts.Character = pos (basis.label n)

-- the truth of an equality, a comparison or a connective at the numbers of its parts
abbrev pub formula_truth : Op → List ℤ → Bool
formula_truth ops.Equal parts = int_eq (number_at parts 0) (number_at parts 1)
formula_truth ops.AtMost parts = int_le (number_at parts 0) (number_at parts 1)
formula_truth ops.Not parts = not (is_true parts 0)
formula_truth ops.And parts = list_all counts_as_true parts
formula_truth ops.Or parts = list_any counts_as_true parts
formula_truth ops.Implies parts = not (is_true parts 0) || is_true parts 1
formula_truth ops.Iff parts = same_truth (is_true parts 0) (is_true parts 1)
formula_truth op parts = false

-- so many times a number, where the first factor is a literal, or the product's own number
abbrev pub product_number : Option ℤ → ℤ → ℤ → ℤ
product_number None x own = own
product_number (Some k) x own = k *ℤ x

abbrev pub number_by : Basis → ℕ → Option ℤ → Op → List ℤ → ℤ
number_by basis n factor (ops.Number k) parts = k
number_by basis n factor (ops.Free free) parts = free_number basis n free.sort
number_by basis n factor ops.Plus parts = number_at parts 0 +ℤ number_at parts 1
number_by basis n factor ops.Times parts = product_number factor (number_at parts 1) (basis.number n)
number_by basis n factor (ops.Of symbol payload) parts = free_number basis n (filled payload (given_by symbol))
number_by basis n factor op parts = number_of_truth (formula_truth op parts)

-- a sum, or a constant multiple
abbrev pub is_summed : Option ℤ → Op → Bool
is_summed factor ops.Plus = true
is_summed (Some k) ops.Times = true
is_summed factor op = false

-- where it has 128 bits
abbrev pub narrow_product : Option ℤ → ℤ → ℤ → Option ℤ
narrow_product None x own = Some own
narrow_product (Some k) x own = narrow (k *ℤ x)

abbrev pub narrow_by : Basis → ℕ → Option ℤ → Op → List ℤ → Option ℤ
narrow_by basis n factor ops.Plus parts = narrow (number_at parts 0 +ℤ number_at parts 1)
narrow_by basis n factor ops.Times parts = narrow_product factor (number_at parts 1) (basis.number n)
narrow_by basis n factor op parts = Some (number_by basis n factor op parts)

-- the number of the first part, where it is a literal
abbrev pub first_factor : List Node → List ℕ → Option ℤ
first_factor nodes [] = None
first_factor nodes (a ∷ others) = literal_number (slice_get nodes a)

-- the number of a node by the numbers of the nodes before it
abbrev pub number_in : Basis → List Node → List ℤ → ℕ → Node → ℤ
number_in basis nodes table n node = number_by basis n (first_factor nodes node.parts) node.op (map (number_at table) node.parts)
