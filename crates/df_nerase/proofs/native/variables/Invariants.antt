use Rattle.std.proofs.Common.{◌≡◌, drop, map, fold}
use Rattle.df_lang.specs.StmtView.{variable_of}
use Rattle.df_nerase.specs.mirror.Finding.{found_of, find_in_variable}
use Rattle.df_nerase.proofs.native.variables.Given as goal

abbrev pub invariant-loop-variable : goal.invariant-loop-variable
invariant-loop-variable l = fold find_in_variable (found_of l.found) (map variable_of (drop l.variable-index l.all.items)) ≡ fold find_in_variable (found_of l.fn.found) (map variable_of l.all.items)
