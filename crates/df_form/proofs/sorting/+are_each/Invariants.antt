use Rattle.std.proofs.Common.{length}
use Rattle.df_form.proofs.sorting.+are_each.Given as goal

abbrev pub decreases-are_each : goal.decreases-are_each
decreases-are_each g l = length l.taken.now
