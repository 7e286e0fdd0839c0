use Rattle.std.proofs.Common.{ℕ, map}
use Rattle.df_row.specs.RowView.{row_of}
use Rattle.df_row.specs.LinearView.{AreWithin}
use Rattle.df_row.proofs.LinearSums.{IsCombining}
use Rattle.df_row.proofs.linear.combine.Given as goal

abbrev pub invariant-loop-multiple : goal.invariant-loop-multiple
invariant-loop-multiple l = (count : ℕ) → AreWithin count (map row_of l.rows) → IsCombining count (map row_of l.rows) l.combination.members.items l.multiple-index (row_of l.sum)
