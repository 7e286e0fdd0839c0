use Rattle.std.proofs.Common.{map}
use Rattle.df_closure.specs.Closure.{ground_of}
use Rattle.df_closure.proofs.Rounds.{RoundSoFar}
use Rattle.df_closure.proofs.closing.Closing.round.Given as goal

abbrev pub invariant-loop-number : goal.invariant-loop-number
invariant-loop-number l = RoundSoFar (map ground_of l.clauses) l.initial.self l.number l.grown l.self
