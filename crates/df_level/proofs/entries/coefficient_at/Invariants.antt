use Rattle.std.proofs.Common.{◌≡◌, drop}
use Rattle.df_level.specs.Entries.{coefficient_of}
use Rattle.df_level.proofs.entries.coefficient_at.Given as goal

abbrev pub invariant-loop-entry : goal.invariant-loop-entry
invariant-loop-entry l = coefficient_of (drop l.entry-index l.entries) l.node ≡ coefficient_of l.entries l.node
