use Rattle.std.proofs.Common.{◌≡◌, true}
use Rattle.df_table.specs.Testing.{all_below, same_at}
use Rattle.df_table.proofs.congruence.same_numbers.Given as goal

abbrev pub invariant-loop-i : goal.invariant-loop-i
invariant-loop-i l = all_below (same_at l.table l.xs l.ys) l.i ≡ true
