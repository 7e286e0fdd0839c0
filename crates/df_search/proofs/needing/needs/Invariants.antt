use Rattle.std.proofs.Common.{length}
use Rattle.df_search.proofs.needing.needs.Given as goal

abbrev pub decreases-loop-literal : goal.decreases-loop-literal
decreases-loop-literal l = length l.taught.items
