-- The code's graphs, without where they lie in memory.
use Rattle.std.specs.Prelude.{ℕ, List, map}
use Rattle.df_groups2.specs.declared.graph.Graph.{Graph}
use Rattle.df_groups2.specs.Graph.{targets_in}

abbrev pub lists_of : Graph → List (List ℕ)
lists_of graph = map (λ targets. targets.items) graph.targets.items

abbrev pub targets_of : Graph → ℕ → List ℕ
targets_of graph = targets_in (lists_of graph)
