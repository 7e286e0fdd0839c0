use Rattle.std.proofs.Common.{drop}
use Rattle.df_level.proofs.Contents.{IsDividing}
use Rattle.df_level.proofs.division.content.Given as goal

abbrev pub invariant-loop-entry : goal.invariant-loop-entry
invariant-loop-entry l = IsDividing l.divisor (drop l.entry-index l.entries) l.entries
