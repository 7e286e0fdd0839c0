use Rattle.std.proofs.Common.{◌≡◌, true}
use Rattle.df_table.specs.Testing.{all_below, agree}
use Rattle.df_table.proofs.congruence.agrees_with_all.Given as goal

abbrev pub invariant-loop-n : goal.invariant-loop-n
invariant-loop-n l = all_below (agree l.nodes l.table l.m) l.n ≡ true
