use Rattle.df_level.specs.Entries.{AreNarrow}
use Rattle.df_level.proofs.Nonzero.{IsKeeping}
use Rattle.df_level.proofs.entries.nonzero_entries.Given as goal

abbrev pub invariant-loop-node : goal.invariant-loop-node
invariant-loop-node l = IsKeeping l.map.entries l.node-iterator l.entries.items × AreNarrow l.entries.items
