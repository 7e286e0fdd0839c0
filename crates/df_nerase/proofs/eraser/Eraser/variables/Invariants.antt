use Rattle.std.proofs.Common.{◌≡◌, take, map}
use Rattle.df_lang.specs.StmtView.{variable_of}
use Rattle.df_nplain.specs.StmtView as plain
use Rattle.df_nerase.specs.Eraser.{program_in}
use Rattle.df_nerase.specs.Erasing.{erase_variable}
use Rattle.df_nerase.proofs.eraser.Eraser.variables.Given as goal

abbrev pub invariant-loop-variable : goal.invariant-loop-variable
invariant-loop-variable l = map plain.variable_of l.erased.items ≡ map (erase_variable (program_in l.self)) (map variable_of (take l.variable-index l.all.items))
