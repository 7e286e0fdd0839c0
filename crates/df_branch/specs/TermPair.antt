-- Equalities that a search may decide.
use Rattle.std.specs.Prelude.{◌≡◌, ℕ, List, [], ◌∷◌, slice_get, Some}
use Rattle.df_form.specs.declared.log.Lit.{Lit}
use Rattle.df_form.specs.declared.node.Op.TheVariants as ops
use Rattle.df_form.specs.declared.node.Sort.TheVariants as sorts
use Rattle.df_form.specs.Node.{Node}
use Rattle.df_form.specs.Sorting.{sort_at}

abbrev pub equal : ℕ → ℕ → Node
equal left right = record { op = ops.Equal; parts = left ∷ right ∷ [] }

-- two terms at one place of one operation, or two terms of one operation that are numbers
pub data IsTermPair (nodes : List Node) (left right : ℕ) : Type 0 where
  of_parts : (m n place : ℕ) (first second : Node) → slice_get nodes m ≡ Some first → slice_get nodes n ≡ Some second → first.op ≡ second.op → slice_get first.parts place ≡ Some left → slice_get second.parts place ≡ Some right → IsTermPair nodes left right
  of_numbers : (first second : Node) → slice_get nodes left ≡ Some first → slice_get nodes right ≡ Some second → first.op ≡ second.op → sort_at nodes left ≡ sorts.Number → IsTermPair nodes left right

-- the literal is of an equality of two such terms of the ground set, which are different
pub record IsTermEquality (set nodes : List Node) (literal : Lit) : Type 0 where
  pub left : ℕ
  pub right : ℕ
  pub is : slice_get nodes literal.node ≡ Some (equal left right)
  pub different : left ≡ right → ⊥
  pub pair : IsTermPair set left right
