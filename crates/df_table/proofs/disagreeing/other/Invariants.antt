use Rattle.std.proofs.Common.{◌≡◌, true}
use Rattle.df_table.specs.Testing.{all_below, agree}
use Rattle.df_table.proofs.disagreeing.other.Given as goal

abbrev pub invariant-loop-other : goal.invariant-loop-other
invariant-loop-other l = all_below (agree l.nodes l.table l.node) l.other ≡ true
