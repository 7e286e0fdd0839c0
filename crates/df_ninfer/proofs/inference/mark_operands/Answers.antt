use Rattle.std.proofs.Common.{map}
use Rattle.std.specs.List.{flat_map}
use Rattle.df_ntree.specs.File.{operand_of}
use Rattle.df_ntyping.specs.LocalTypes.{used_in_operand}
use Rattle.df_ninfer.specs.Marks.{marked}
use Rattle.df_ninfer.proofs.Looping.{mark_step}
use Rattle.df_ninfer.proofs.inference.mark_operands.Goals as goal

pub loop-operand-preserved : goal.loop-operand-preserved
loop-operand-preserved c =
    mark_step operand_of used_in_operand c.args.all.now c.loop-operand.operand-index c.operand-item.result c.loop-operand.env c.mark_operand.new.env (marked c.args.env.now (flat_map used_in_operand (map operand_of c.args.all.now))) c.loop-operand-test.true c.operand-item.is c.mark_operand.ensures c.loop-operand.invariant
