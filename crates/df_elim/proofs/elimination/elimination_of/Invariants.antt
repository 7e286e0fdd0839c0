use Rattle.std.proofs.Common.{◌-◌, ◌^◌}
use Rattle.df_level.specs.Levels.{rows_of}
use Rattle.df_elim.specs.Elimination.{low_after}
use Rattle.df_elim.proofs.Growing.{AreSoFar}
use Rattle.df_elim.proofs.elimination.elimination_of.Given as goal

abbrev pub invariant-loop-levels : goal.invariant-loop-levels
invariant-loop-levels l = AreSoFar (rows_of l.rows) l.levels.first l.levels.variables.items l.levels.others.items (low_after l.last)

abbrev pub decreases-loop-levels : goal.decreases-loop-levels
decreases-loop-levels l = 2 ^ 64 - low_after l.last
