use Rattle.std.proofs.Common.{◌≡◌, map, drop}
use Rattle.std.specs.List.{flat_map}
use Rattle.df_ntree.specs.File.{operand_of}
use Rattle.df_ntyping.specs.LocalTypes.{used_in_operand}
use Rattle.df_ninfer.specs.Marks.{marked}
use Rattle.df_ninfer.proofs.inference.mark_operands.Given as goal

-- with what is left marked, all is
abbrev pub invariant-loop-operand : goal.invariant-loop-operand
invariant-loop-operand l =
    marked l.env (flat_map used_in_operand (map operand_of (drop l.operand-index l.all))) ≡ marked l.fn.env (flat_map used_in_operand (map operand_of l.all))
