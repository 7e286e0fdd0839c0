use Rattle.std.proofs.Common.{take}
use Rattle.df_level.specs.Levels.{rows_of, HasFalse}
use Rattle.df_level.proofs.level.false_among.Given as goal

abbrev pub invariant-loop-number : goal.invariant-loop-number
invariant-loop-number l = HasFalse (rows_of (take l.number l.rows)) → ⊥
