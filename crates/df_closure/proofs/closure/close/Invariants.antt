use Rattle.std.proofs.Common.{map}
use Rattle.df_rules.specs.Known.{knows}
use Rattle.df_closure.specs.Closure.{ground_of}
use Rattle.df_closure.specs.Closing.{IsClosing, unknown}
use Rattle.df_closure.proofs.closure.close.Given as goal

abbrev pub invariant-loop-closing : goal.invariant-loop-closing
invariant-loop-closing l = IsClosing (map ground_of l.clauses) l.literals l.closing

abbrev pub decreases-loop-closing : goal.decreases-loop-closing
decreases-loop-closing l = unknown (knows l.closing.known) (map ground_of l.clauses)
