use Rattle.std.proofs.Common.{◌≡◌, true}
use Rattle.df_table.specs.Testing.{all_below, agrees_with_all}
use Rattle.df_table.proofs.disagreeing.two.Given as goal

abbrev pub invariant-loop-left : goal.invariant-loop-left
invariant-loop-left l = all_below (agrees_with_all l.nodes l.table) l.left ≡ true
