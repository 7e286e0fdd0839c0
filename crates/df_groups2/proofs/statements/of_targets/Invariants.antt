use Rattle.std.proofs.Common.{◌≡◌, ◌++◌, drop, map, flat_map}
use Rattle.df_types.specs.StmtView.{target_of}
use Rattle.df_types.specs.Gathering.{of_target}
use Rattle.df_groups2.specs.Parts.{calls_in}
use Rattle.df_groups2.proofs.statements.of_targets.Given as goal

-- the calls so far, in front of those of what is left, are those of all
abbrev pub invariant-loop-target : goal.invariant-loop-target
invariant-loop-target l = l.callees.items ++ calls_in (flat_map of_target (map target_of (drop l.target-index l.targets))) ≡ l.fn.callees.items ++ calls_in (flat_map of_target (map target_of l.targets))
