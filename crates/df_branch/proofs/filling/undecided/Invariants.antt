use Rattle.std.proofs.Common.{◌≡◌, take, []}
use Rattle.df_rules.specs.Known.{knows, left_by}
use Rattle.df_branch.proofs.filling.undecided.Given as goal

abbrev pub invariant-loop-literal : goal.invariant-loop-literal
invariant-loop-literal l = left_by (knows l.known) (take l.literal-index l.clause) ≡ []
