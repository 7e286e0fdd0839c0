use Rattle.std.proofs.Common.{map, take}
use Rattle.df_rules.proofs.Learning.{LearnsSoFar}
use Rattle.df_kern.proofs.propagation.learn.Given as goal

abbrev pub invariant-loop-number : goal.invariant-loop-number
invariant-loop-number l = LearnsSoFar l.initial.known (map (λ clause. clause.items) l.clauses) (take l.number-index l.numbers) l.known
