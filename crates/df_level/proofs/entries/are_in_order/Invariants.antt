use Rattle.std.proofs.Common.{◌≡◌, drop}
use Rattle.df_level.specs.Entries.{ascends, AreNarrow}
use Rattle.df_level.proofs.entries.are_in_order.Given as goal

abbrev pub invariant-loop-entry : goal.invariant-loop-entry
invariant-loop-entry l = (ascends l.low (drop l.entry-index l.entries) ≡ ascends 0 l.entries) × (AreNarrow (drop l.entry-index l.entries) → AreNarrow l.entries)
