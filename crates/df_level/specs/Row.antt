-- Sparse rows, and their sums.
use Rattle.std.specs.Prelude.{◌≡◌, ℕ, ℤ, pos, ◌<ℤ◌, false, List, Result, Ok, Err}
use Rattle.df_row.specs.Row.{Row, fits}
use Rattle.df_row.specs.RowView.{IsNarrow}
use Rattle.df_level.specs.declared.row.Row as declared
use Rattle.df_level.specs.declared.fault.RowFault.{RowFault}
use Rattle.df_level.specs.declared.fault.RowFault.TheVariants as faults
use Rattle.df_level.specs.Exact.{weighted}
use Rattle.df_level.specs.Entries.{coefficient_of}

-- the coefficient of each node among entries, and the constant
abbrev pub entries_row : List (ℕ × ℤ) → ℤ → Row
entries_row entries constant = record { coefficient = coefficient_of entries; constant = constant }

-- the code's row, without where it lies in memory
abbrev pub function_row : declared.Row → Row
function_row r = entries_row r.coefficients.items r.constant

-- the sum of two rows by factors
abbrev pub weighted_row : ℤ → Row → ℤ → Row → Row
weighted_row f row g other = record { coefficient = λ n. weighted f (row.coefficient n) g (other.coefficient n); constant = weighted f row.constant g other.constant }

-- a number of the row is past 128 bits
pub data IsWide (row : Row) : Type 0 where
  at_node : (n : ℕ) → fits (row.coefficient n) ≡ false → IsWide row
  at_constant : fits row.constant ≡ false → IsWide row

-- the row, or that it is too wide; want of memory says nothing
abbrev pub GivesRow : Result declared.Row RowFault → Row → Type 0
GivesRow (Ok r) row = (function_row r ≡ row) × IsNarrow row
GivesRow (Err faults.Wide) row = IsWide row
GivesRow (Err faults.Memory) row = Unit

-- 0 <= c for a c below 0
pub record IsFalse (row : Row) : Type 0 where
  pub zeros : (n : ℕ) → row.coefficient n ≡ pos 0
  pub below : row.constant <ℤ pos 0
