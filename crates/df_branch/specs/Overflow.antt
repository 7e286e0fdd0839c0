-- Numbers past 128 bits on the way of a search.
use Rattle.std.specs.Prelude.{◌≡◌, ℕ, ℤ, List, Some, None}
use Rattle.df_form.specs.declared.log.Lit.{Lit}
use Rattle.df_form.specs.Node.{Node}
use Rattle.df_row.specs.Row.{Row}
use Rattle.df_row.specs.RowView.{IsWithin}
use Rattle.df_row.specs.Linear.{rows_of}
use Rattle.df_level.specs.Levels.{Stands}
use Rattle.df_level.specs.Elimination.{IsElimination, AreOverflowing}
use Rattle.df_back.specs.BackSubstitution.{BackSubstitution, IsPastWidth}
use Rattle.df_back.specs.BackView.{numbers_of}
use Rattle.df_cong.specs.Congruence.{HasLabels}
use Rattle.df_model.specs.TableNumbers.{basis_of}
use Rattle.df_model.specs.Tabulation.{IsWideTable}

-- in a row of a known literal, or by elimination, a number past 128 bits comes
pub data RowsOverflow (nodes : List Node) (known : List Lit) : Type 0 where
  in_row : rows_of nodes known ≡ None → RowsOverflow nodes known
  in_level : (rows : List Row) → rows_of nodes known ≡ Some rows → AreOverflowing rows → RowsOverflow nodes known

-- There, by back substitution, or by putting the numbers of back substitution into the
-- sums and constant multiples of the ground set, a number past 128 bits comes.
pub data Overflows (set nodes : List Node) (known : List Lit) : Type 0 where
  of_rows : RowsOverflow nodes known → Overflows set nodes known
  at_value : (rows first : List Row) (variables : List ℕ) (levels : List (List Row)) (count : ℕ) → rows_of nodes known ≡ Some rows → IsElimination rows first variables levels → ((row : Row) → Stands row first → IsWithin count row)
      → IsPastWidth count first variables levels → Overflows set nodes known
  at_node : (rows first : List Row) (variables : List ℕ) (levels : List (List Row)) (count : ℕ) (numbers : List ℤ) (labels : List ℕ) → rows_of nodes known ≡ Some rows → IsElimination rows first variables levels
      → ((row : Row) → Stands row first → IsWithin count row) → BackSubstitution count first variables levels (numbers_of numbers)
      → HasLabels nodes known labels → IsWideTable (basis_of numbers labels known) set → Overflows set nodes known
