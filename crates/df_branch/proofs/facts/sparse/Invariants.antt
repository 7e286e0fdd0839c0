use Rattle.std.proofs.Common.{◌≡◌, map, take}
use Rattle.df_row.specs.RowView.{row_of}
use Rattle.df_level.specs.Levels.{rows_of}
use Rattle.df_branch.proofs.facts.sparse.Given as goal

abbrev pub invariant-loop-row : goal.invariant-loop-row
invariant-loop-row l = rows_of l.sparse.items ≡ map row_of (take l.row-index l.rows)
