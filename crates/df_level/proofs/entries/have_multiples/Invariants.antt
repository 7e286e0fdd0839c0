use Rattle.std.proofs.Common.{drop}
use Rattle.df_level.proofs.Multiples.{IsTesting, IsFitting}
use Rattle.df_level.proofs.entries.have_multiples.Given as goal

abbrev pub invariant-loop-entry : goal.invariant-loop-entry
invariant-loop-entry l = IsTesting (IsFitting l.factor) l.entries (drop l.entry-index l.entries)
