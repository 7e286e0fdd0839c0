use Rattle.std.proofs.Common.{◌≡◌, true}
use Rattle.df_table.specs.Testing.{all_below, agrees_with_all}
use Rattle.df_table.proofs.congruence.is_congruent.Given as goal

abbrev pub invariant-loop-m : goal.invariant-loop-m
invariant-loop-m l = all_below (agrees_with_all l.nodes l.table) l.m ≡ true
