use Rattle.df_classes.proofs.Retreating.{IsRetreating}
use Rattle.df_classes.proofs.partition.Partition.retreat.Given as goal
use Rattle.std.proofs.Common.{length}

abbrev pub invariant-loop-self : goal.invariant-loop-self
invariant-loop-self l = IsRetreating l.changes l.fn.self l.self

abbrev pub decreases-loop-self : goal.decreases-loop-self
decreases-loop-self l = length l.self.trail.items
