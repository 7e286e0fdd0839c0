use Rattle.std.proofs.Common.{◌≡◌, take, map}
use Rattle.df_lang.specs.StmtView.{operand_of}
use Rattle.df_nplain.specs.StmtView as plain
use Rattle.df_nerase.specs.Eraser.{program_in}
use Rattle.df_nerase.specs.Erasing.{erase_operand}
use Rattle.df_nerase.proofs.eraser.Eraser.operands.Given as goal

abbrev pub invariant-loop-operand : goal.invariant-loop-operand
invariant-loop-operand l = map plain.operand_of l.erased.items ≡ map (erase_operand (program_in l.self)) (map operand_of (take l.operand-index l.all.items))
