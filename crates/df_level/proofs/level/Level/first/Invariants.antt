use Rattle.std.proofs.Common.{take}
use Rattle.df_level.specs.Levels.{rows_of, level_rows, IsWholeFirst, AreWays}
use Rattle.df_level.proofs.level.Level.first.Given as goal

abbrev pub invariant-loop-number : goal.invariant-loop-number
invariant-loop-number l = IsWholeFirst (rows_of (take l.number l.rows)) (level_rows l.level) × AreWays (rows_of l.rows) l.level
