use Rattle.std.proofs.Common.{drop}
use Rattle.df_lin_tests.proofs.Inside.{AreBelow}
use Rattle.df_lin_tests.proofs.eliminations.is_inside.Given as goal

abbrev pub invariant-loop-entry : goal.invariant-loop-entry
invariant-loop-entry l = AreBelow l.count l.entry-items (drop l.entry-index l.entry-items)
