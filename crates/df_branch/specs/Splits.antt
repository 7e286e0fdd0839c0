-- Splits: a number between two whole numbers is at most the one, or at least the other.
use Rattle.std.specs.Prelude.{◌≡◌, ℕ, ℤ, List, slice_get, Some}
use Rattle.df_form.specs.declared.log.Lit.{Lit}
use Rattle.df_form.specs.Node.{Node}
use Rattle.df_row.specs.Row.{Row}
use Rattle.df_row.specs.RowView.{IsWithin}
use Rattle.df_row.specs.Linear.{rows_of}
use Rattle.df_rules.specs.Bound.{number, at_most}
use Rattle.df_level.specs.Levels.{Stands}
use Rattle.df_level.specs.Elimination.{IsElimination}
use Rattle.df_back.specs.BackSubstitution.{IsBetween}

-- The literal says that a number is at most a bound; the rows of the known literals put it strictly between the bound and
-- the next number.
pub record IsSplit (nodes : List Node) (known : List Lit) (literal : Lit) : Type 0 where
  pub rows : List Row
  pub rows_are : rows_of nodes known ≡ Some rows
  pub first : List Row
  pub variables : List ℕ
  pub levels : List (List Row)
  pub elimination : IsElimination rows first variables levels
  pub count : ℕ
  pub within : (row : Row) → Stands row first → IsWithin count row
  pub term : ℕ
  pub bound : ℤ
  pub between : IsBetween count first variables levels term bound
  pub place : ℕ
  pub is_bound : slice_get nodes place ≡ Some (number bound)
  pub is_comparison : slice_get nodes literal.node ≡ Some (at_most term place)
