-- The code's exact sums.
use Rattle.std.specs.Prelude.{ℕ, ℤ, pos, List}
use Rattle.std.specs.Option.{option_map_or}
use Rattle.std.specs.Ordering.{nat_cmp}
use Rattle.std.specs.BTreeMap.{is_at}
use Rattle.std.specs.Map.{lookup}
use Rattle.df_integer.specs.declared.integer.Integer.{Integer}
use Rattle.df_integer.specs.Integer.{value}
use Rattle.df_row.specs.declared.expansion.Expansion as declared
use Rattle.df_row.specs.Row.{Row}

-- the number of a node among entries, which is 0 where it has none
abbrev pub number_at : List (ℕ × Integer) → ℕ → ℤ
number_at entries n = option_map_or value (lookup (is_at (nat_cmp n)) entries) (pos 0)

-- the code's sum as a row, without where it lies in memory
abbrev pub expansion_of : declared.Expansion → Row
expansion_of e = record { coefficient = number_at e.coefficients.entries; constant = value e.constant }
