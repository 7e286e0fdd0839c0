use Rattle.df_lin.proofs.Counts.{some_count}
use Rattle.df_lin.proofs.law.rows_have_a_count.Goals as goal

pub returns : goal.returns
returns c rows = some_count rows
