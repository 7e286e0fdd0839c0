use Rattle.std.proofs.Common.{◌≡◌, ◌++◌, drop}
use Rattle.df_rules.specs.CongruenceLine.{members}
use Rattle.df_kern.proofs.number.push_members.Given as goal

abbrev pub invariant-loop-pair : goal.invariant-loop-pair
invariant-loop-pair l = l.initial.nodes.items ++ members l.pairs ≡ l.nodes.items ++ members (drop l.pair-index l.pairs)
