use Rattle.std.proofs.Common.{◌≡◌, ◌++◌, drop, map, flat_map}
use Rattle.df_types.specs.StmtView.{source_of}
use Rattle.df_types.specs.Gathering.{of_source}
use Rattle.df_groups2.specs.Parts.{calls_in}
use Rattle.df_groups2.proofs.statements.of_sources.Given as goal

-- the calls so far, in front of those of what is left, are those of all
abbrev pub invariant-loop-source : goal.invariant-loop-source
invariant-loop-source l = l.callees.items ++ calls_in (flat_map of_source (map source_of (drop l.source-index l.sources))) ≡ l.fn.callees.items ++ calls_in (flat_map of_source (map source_of l.sources))
