use Rattle.std.proofs.Common.{map, take}
use Rattle.df_form.specs.Clause.{negation}
use Rattle.df_rules.specs.Known.{IsSetOf}
use Rattle.df_rules.proofs.known.Known.of_negations.Given as goal

abbrev pub invariant-loop-literal : goal.invariant-loop-literal
invariant-loop-literal l = IsSetOf (map negation (take l.literal-index l.literals)) l.known
