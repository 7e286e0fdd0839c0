use Rattle.std.proofs.Common.{map}
use Rattle.df_row.specs.RowView.{row_of}
use Rattle.df_row.proofs.LinearRows.{IsGathering}
use Rattle.df_row.proofs.linear.rows_of_literals.Given as goal

abbrev pub invariant-loop-literal : goal.invariant-loop-literal
invariant-loop-literal l = IsGathering l.nodes l.literals l.literal-index (map row_of l.rows.items)
