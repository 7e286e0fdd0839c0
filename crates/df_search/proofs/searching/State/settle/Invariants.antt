use Rattle.std.proofs.Common.{length}
use Rattle.df_search.proofs.Ending.{IsSettling}
use Rattle.df_search.proofs.searching.State.settle.Given as goal

abbrev pub invariant-loop-end : goal.invariant-loop-end
invariant-loop-end l = IsSettling l.initial.self l.fn.first l.self l.end

abbrev pub decreases-loop-end : goal.decreases-loop-end
decreases-loop-end l = length l.self.trail.decisions.items
