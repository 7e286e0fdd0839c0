use Rattle.std.proofs.Common.{◌≡◌, drop, map, fold}
use Rattle.df_lang.specs.StmtView.{operand_of}
use Rattle.df_nerase.specs.mirror.Finding.{found_of, find_in_operand}
use Rattle.df_nerase.proofs.native.all_printed.Given as goal

abbrev pub invariant-loop-operand : goal.invariant-loop-operand
invariant-loop-operand l = fold find_in_operand (found_of l.found) (map operand_of (drop l.operand-index l.all.items)) ≡ fold find_in_operand (found_of l.fn.found) (map operand_of l.all.items)
