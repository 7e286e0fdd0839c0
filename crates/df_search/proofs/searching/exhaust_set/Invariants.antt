use Rattle.std.proofs.Common.{◌-◌, ◌+◌, ◌*◌, ◌^◌, ◌<◌, length}
use Rattle.df_form.specs.SequentView.{sequent_of}
use Rattle.df_search.specs.Searching.{Searches}
use Rattle.df_search.proofs.searching.exhaust_set.Given as goal

abbrev pub invariant-loop-search : goal.invariant-loop-search
invariant-loop-search l = record { searches : Searches (sequent_of l.sequent) l.rounds l.search; few : length l.search.closed.items < l.steps }

abbrev pub decreases-loop-search : goal.decreases-loop-search
decreases-loop-search l = (2 ^ 63 - length l.search.derivation.lines.items) * 2 ^ 63 + (2 ^ 63 - length l.search.trail.decisions.items)
