use Rattle.std.proofs.Common.{◌≡◌, map, take}
use Rattle.df_form.specs.Clause.{negation}
use Rattle.df_row.proofs.linear.negations.Given as goal

abbrev pub invariant-loop-literal : goal.invariant-loop-literal
invariant-loop-literal l = l.negated.items ≡ map negation (take l.literal-index l.literals)
