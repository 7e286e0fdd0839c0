use Rattle.df_lang.specs.StmtView.{operand_of}
use Rattle.df_lang.specs.Assignment.{reads_of_operand}
use Rattle.df_nghost.specs.mirror.Known.{assigned_of}
use Rattle.df_nghost.proofs.Finds.{each_goes}
use Rattle.df_nghost.proofs.reads.first_of_operands.Goals as goal

pub loop-operand-preserved : goal.loop-operand-preserved
loop-operand-preserved c =
    each_goes (assigned_of c.args.assigned.now) operand_of reads_of_operand c.loop-operand.first _ _ _ c.loop-operand.operand-index c.operand-item.result c.loop-operand-test.true c.operand-item.is c.first_of_operand-first.ensures c.loop-operand.invariant
