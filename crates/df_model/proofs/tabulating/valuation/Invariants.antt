use Rattle.std.proofs.Common.{length, ◌-◌}
use Rattle.df_form.specs.World.{world_of}
use Rattle.df_model.specs.Valuation.{assignment_by}
use Rattle.df_model.proofs.Tables.{IsTabled}
use Rattle.df_model.proofs.tabulating.valuation.Given as goal

abbrev pub invariant-loop-node : goal.invariant-loop-node
invariant-loop-node l = IsTabled (world_of l.fn.world) (assignment_by l.fn.nodes l.fn.numbers l.fn.known) l.fn.nodes l.table.items

abbrev pub decreases-loop-node : goal.decreases-loop-node
decreases-loop-node l = length l.fn.nodes - length l.table.items
