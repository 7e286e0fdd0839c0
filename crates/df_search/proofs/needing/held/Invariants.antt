use Rattle.std.proofs.Common.{◌≡◌, filter, take}
use Rattle.df_rules.specs.Known.{knows}
use Rattle.df_search.proofs.needing.held.Given as goal

abbrev pub invariant-loop-literal : goal.invariant-loop-literal
invariant-loop-literal l = l.held.items ≡ filter (knows l.set) (take l.literal-index l.list)
