use Rattle.df_level.specs.Levels.{rows_of}
use Rattle.df_back.specs.BackView.{numbers_of}
use Rattle.df_branch.proofs.Unrefuted.{HoldSoFar}
use Rattle.df_branch.proofs.point.all_hold.Given as goal

abbrev pub invariant-loop-row : goal.invariant-loop-row
invariant-loop-row l = HoldSoFar (numbers_of l.numbers) (rows_of l.rows) l.row-index
