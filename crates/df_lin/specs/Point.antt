-- Points: a whole number for each node.
use Rattle.std.specs.Prelude.{ℕ, ℤ}
use Rattle.df_row.specs.RowView.{coefficient_at}
use Rattle.df_lin.specs.declared.point.Point.{Point}

-- the number of each node, 0 where the point names none
abbrev pub numbers_of : Point → ℕ → ℤ
numbers_of point = coefficient_at point.numbers.entries
