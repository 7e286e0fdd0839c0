use Rattle.std.proofs.Common.{map}
use Rattle.df_closure.specs.Closure.{ground_of}
use Rattle.df_branch.proofs.OpenClauses.{PassedSoFar}
use Rattle.df_branch.proofs.filling.open_member.Given as goal

abbrev pub invariant-loop-clause : goal.invariant-loop-clause
invariant-loop-clause l = PassedSoFar l.known (map ground_of l.clauses) l.clause-index
