use Rattle.std.proofs.Common.{◌≡◌, true}
use Rattle.df_table.specs.Testing.{all_below, exact_at}
use Rattle.df_table.proofs.exactness.are_exact.Given as goal

abbrev pub invariant-loop-number : goal.invariant-loop-number
invariant-loop-number l = all_below (exact_at l.nodes l.table) l.number ≡ true
