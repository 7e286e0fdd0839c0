use Rattle.std.proofs.Common.{drop, map}
use Rattle.df_form.specs.Log.{combination_of}
use Rattle.df_level.specs.Levels.{rows_of}
use Rattle.df_refutation.proofs.Histories.{IsHistory}
use Rattle.df_refutation.proofs.history.refutation.Given as goal

abbrev pub invariant-loop-level : goal.invariant-loop-level
invariant-loop-level l = IsHistory (rows_of l.given) l.levels (drop l.level-index l.levels) (map combination_of l.combinations.items) l.start
