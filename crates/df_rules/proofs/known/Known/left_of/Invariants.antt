use Rattle.std.proofs.Common.{◌≡◌, take}
use Rattle.df_rules.specs.Known.{knows, left_by, counted}
use Rattle.df_rules.proofs.known.Known.left_of.Given as goal

abbrev pub invariant-loop-literal : goal.invariant-loop-literal
invariant-loop-literal l = l.left ≡ counted (left_by (knows l.self) (take l.literal-index l.clause))
