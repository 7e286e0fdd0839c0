use Rattle.std.proofs.Common.{◌≡◌, ◌++◌, drop, map, flat_map}
use Rattle.df_types.specs.StmtView.{range_of}
use Rattle.df_types.specs.Gathering.{of_range}
use Rattle.df_groups2.specs.Parts.{calls_in}
use Rattle.df_groups2.proofs.statements.of_ranges.Given as goal

-- the calls so far, in front of those of what is left, are those of all
abbrev pub invariant-loop-range : goal.invariant-loop-range
invariant-loop-range l = l.callees.items ++ calls_in (flat_map of_range (map range_of (drop l.range-index l.ranges))) ≡ l.fn.callees.items ++ calls_in (flat_map of_range (map range_of l.ranges))
