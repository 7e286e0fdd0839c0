use Rattle.std.proofs.Common.{◌≡◌, ◌++◌, drop, map}
use Rattle.df_types.specs.StmtView.{demand_of}
use Rattle.df_types.specs.Gathering.{of_demands}
use Rattle.df_groups2.specs.Parts.{calls_in}
use Rattle.df_groups2.proofs.statements.of_demands.Given as goal

-- the calls so far, in front of those of what is left, are those of all
abbrev pub invariant-loop-demand : goal.invariant-loop-demand
invariant-loop-demand l = l.callees.items ++ calls_in (of_demands (map demand_of (drop l.demand-index l.demands))) ≡ l.fn.callees.items ++ calls_in (of_demands (map demand_of l.demands))
