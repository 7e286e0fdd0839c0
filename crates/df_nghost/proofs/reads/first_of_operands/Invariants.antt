use Rattle.std.proofs.Common.{◌≡◌, drop, map, flat_map}
use Rattle.df_lang.specs.StmtView.{operand_of}
use Rattle.df_lang.specs.Assignment.{reads_of_operand}
use Rattle.df_nghost.specs.mirror.Known.{assigned_of}
use Rattle.df_nghost.specs.mirror.Uses.{pick}
use Rattle.df_nghost.proofs.reads.first_of_operands.Given as goal

-- the first so far and of what is left is the first of all
abbrev pub invariant-loop-operand : goal.invariant-loop-operand
invariant-loop-operand l = pick (assigned_of l.assigned) l.first (flat_map reads_of_operand (map operand_of (drop l.operand-index l.operand-items))) ≡ pick (assigned_of l.assigned) l.fn.first (flat_map reads_of_operand (map operand_of l.operand-items))
