-- Lists of literals with numbers and labels that solve them.
use Rattle.std.specs.Prelude.{◌≡◌, ℕ, ◌<◌, ℤ, true, false, List, [], ◌∷◌, length, slice_get, Some}
use Rattle.df_form.specs.declared.log.Lit.{Lit}
use Rattle.df_form.specs.declared.node.Sort.TheVariants as sorts
use Rattle.df_form.specs.declared.node.Op.TheVariants as ops
use Rattle.df_form.specs.Node.{Node}
use Rattle.df_form.specs.Sorting.{IsTable, sort_at}
use Rattle.df_form.specs.Clause.{are_literals}
use Rattle.df_row.specs.Row.{Row}
use Rattle.df_row.specs.Linear.{rows_of}
use Rattle.df_row.specs.Value.{rows_hold}
use Rattle.df_closure.specs.Full.{knows_of, AreConnectivesMet, IsConsistent}
use Rattle.df_cong.specs.Congruence.{HasLabels}
use Rattle.df_table.specs.TableModel.{number_at}

-- The numbers meet the rows of the list, and the labels are those of its equalities. What the list knows of connectives is
-- met, and no literal contradicts another one.
pub record IsSolution (nodes : List Node) (known : List Lit) (numbers : List ℤ) (labels : List ℕ) : Type 0 where
  pub table : IsTable nodes
  pub formulas : are_literals nodes known ≡ true
  pub consistent : IsConsistent known
  pub connectives : AreConnectivesMet nodes known
  pub labels_are : HasLabels nodes known labels
  pub rows : List Row
  pub rows_are : rows_of nodes known ≡ Some rows
  pub met : rows_hold (length nodes) (number_at numbers) rows ≡ true

-- two numbers of whose equality nothing is known
pub record AreUndecided (nodes : List Node) (known : List Lit) (left right : ℕ) : Type 0 where
  pub different : left ≡ right → ⊥
  pub left_below : left < length nodes
  pub right_below : right < length nodes
  pub left_number : sort_at nodes left ≡ sorts.Number
  pub right_number : sort_at nodes right ≡ sorts.Number
  pub unknown : (n : ℕ) → slice_get nodes n ≡ Some (record { op = ops.Equal; parts = left ∷ right ∷ [] }) → knows_of known n ≡ false
