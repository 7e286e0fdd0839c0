use Rattle.std.proofs.Common.{◌≡◌, map, take}
use Rattle.df_form.specs.Clause.{negation}
use Rattle.df_trail.proofs.join.negations.Given as goal

abbrev pub invariant-loop-literal : goal.invariant-loop-literal
invariant-loop-literal l = l.clause.items ≡ map negation (take l.literal-index l.literals)
