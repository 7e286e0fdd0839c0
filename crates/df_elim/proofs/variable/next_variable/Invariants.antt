use Rattle.std.proofs.Common.{take}
use Rattle.df_level.specs.Levels.{rows_of}
use Rattle.df_elim.specs.Elimination.{low_after, TellsVariable}
use Rattle.df_elim.proofs.variable.next_variable.Given as goal

abbrev pub invariant-loop-row : goal.invariant-loop-row
invariant-loop-row l = TellsVariable (low_after l.last) (rows_of (take l.row-index l.rows)) l.least
