use Rattle.df_trail.specs.Trail.{HasAll}
use Rattle.df_search.proofs.lessening.Kept.of.Given as goal

abbrev pub invariant-loop-fact : goal.invariant-loop-fact
invariant-loop-fact l = HasAll l.facts l.kept.facts.items
