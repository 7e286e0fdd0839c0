use Rattle.std.proofs.Common.{◌≤◌, ◌-◌}
use Rattle.df_search.proofs.exhausting.exhaust.Given as goal

abbrev pub invariant-loop-found : goal.invariant-loop-found
invariant-loop-found l = l.rounds ≤ l.budget.rounds

abbrev pub decreases-loop-found : goal.decreases-loop-found
decreases-loop-found l = l.budget.rounds - l.rounds
