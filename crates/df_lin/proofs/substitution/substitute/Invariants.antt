use Rattle.std.proofs.Common.{map}
use Rattle.df_level.specs.Levels.{level_rows}
use Rattle.df_lin.specs.Point.{numbers_of}
use Rattle.df_lin.proofs.Backwards.{IsBackTo}
use Rattle.df_lin.proofs.substitution.substitute.Given as goal

abbrev pub invariant-loop-place : goal.invariant-loop-place
invariant-loop-place l = IsBackTo (level_rows l.levels.first) l.levels.variables.items (map level_rows l.levels.others.items) l.place (numbers_of l.point)

abbrev pub decreases-loop-place : goal.decreases-loop-place
decreases-loop-place l = l.place
