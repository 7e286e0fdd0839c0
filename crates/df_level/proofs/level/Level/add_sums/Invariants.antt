use Rattle.std.proofs.Common.{◌<◌, length, take}
use Rattle.df_level.specs.Row.{function_row}
use Rattle.df_level.specs.Levels.{row_limit, rows_of, level_rows, AddsSums, KeepsAll}
use Rattle.df_level.proofs.level.Level.add_sums.Given as goal

abbrev pub invariant-loop-other : goal.invariant-loop-other
invariant-loop-other l = AddsSums l.node (function_row l.first) (rows_of (take l.other l.rows)) (level_rows l.initial.self) (level_rows l.self) × KeepsAll (rows_of l.rows) (function_row l.first) l.number l.initial.self l.self × (length (level_rows l.self) < row_limit)
