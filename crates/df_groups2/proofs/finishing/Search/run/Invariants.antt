use Rattle.std.proofs.Common.{ℕ}
use Rattle.df_groups2.specs.GraphView.{targets_of}
use Rattle.df_groups2.specs.Searching.{IsSearch, search_work}
use Rattle.df_groups2.proofs.finishing.Search.run.Given as goal

abbrev pub invariant-loop-step : goal.invariant-loop-step
invariant-loop-step l = (count : ℕ) → IsSearch (targets_of l.graph) count l.fn.self → IsSearch (targets_of l.graph) count l.self

abbrev pub decreases-loop-step : goal.decreases-loop-step
decreases-loop-step l = search_work (targets_of l.graph) l.self
