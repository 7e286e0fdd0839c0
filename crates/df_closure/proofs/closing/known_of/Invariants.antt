use Rattle.std.proofs.Common.{take}
use Rattle.df_rules.specs.Known.{IsSetOf}
use Rattle.df_closure.proofs.closing.known_of.Given as goal

abbrev pub invariant-loop-literal : goal.invariant-loop-literal
invariant-loop-literal l = IsSetOf (take l.literal-index l.literals) l.known
