use Rattle.std.proofs.Common.{◌<◌, length, take}
use Rattle.df_level.specs.Levels.{row_limit, rows_of, level_rows, IsSoFar, AreWays}
use Rattle.df_level.proofs.level.eliminated.Given as goal

abbrev pub invariant-loop-number : goal.invariant-loop-number
invariant-loop-number l = IsSoFar l.node (rows_of (take l.number l.rows)) (rows_of l.rows) (level_rows l.level) × AreWays (rows_of l.rows) l.level × (length (level_rows l.level) < row_limit)
