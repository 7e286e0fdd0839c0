-- Rows with a level that has a false row have no point.
use Rattle.std.proofs.Common.{◌≡◌, ℕ, ℤ, true, List}
use Rattle.df_row.specs.Row.{Row}
use Rattle.df_row.specs.Value.{rows_hold}
use Rattle.df_level.specs.Elimination.{AreRefuted}
use Rattle.df_elim.specs.Elimination.{HasFalseLevel}
use Rattle.df_elim.proofs.Growing.{reaches}
use Rattle.df_elim.proofs.Holding.{rows_unrefuted}

are_refuted : (rows : List Row) → HasFalseLevel rows → AreRefuted rows
are_refuted rows has = record {
  first = has.first;
  is_first = has.is_first.is_first;
  from = has.from;
  level = has.level;
  reaches = reaches 0 has.from has.first has.level has.passes;
  has_false = has.has_false;
}

pub no_point : (count : ℕ) (numbers : ℕ → ℤ) (rows : List Row) → HasFalseLevel rows → rows_hold count numbers rows ≡ true → ⊥
no_point count numbers rows has holds = rows_unrefuted count numbers rows holds (are_refuted rows has)
