use Rattle.std.proofs.Common.{length, ◌-◌}
use Rattle.df_model.specs.TableNumbers.{basis_of}
use Rattle.df_model.specs.Tabulation.{IsTabulated}
use Rattle.df_model.proofs.tabulation.numbers_of_nodes.Given as goal

abbrev pub invariant-loop-node : goal.invariant-loop-node
invariant-loop-node l = IsTabulated (basis_of l.fn.numbers l.fn.labels l.fn.facts) l.fn.nodes l.table.items

abbrev pub decreases-loop-node : goal.decreases-loop-node
decreases-loop-node l = length l.fn.nodes - length l.table.items
