use Rattle.std.proofs.Common.{take}
use Rattle.df_level.specs.Levels.{rows_of}
use Rattle.df_back.specs.Ranges.{AreInside}
use Rattle.df_lin_tests.proofs.eliminations.are_inside.Given as goal

abbrev pub invariant-loop-row : goal.invariant-loop-row
invariant-loop-row l = AreInside l.count (rows_of (take l.row-index l.rows))
