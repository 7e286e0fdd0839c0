use Rattle.std.proofs.Common.{◌≡◌, ◌++◌, drop}
use Rattle.std.specs.List.{filter_map}
use Rattle.df_rules.specs.Congruence.{negative_equality}
use Rattle.df_kern.proofs.equality.negative_equalities.Given as goal

abbrev pub invariant-loop-literal : goal.invariant-loop-literal
invariant-loop-literal l = filter_map (negative_equality l.nodes) l.clause ≡ l.pairs.items ++ filter_map (negative_equality l.nodes) (drop l.literal-index l.clause)
