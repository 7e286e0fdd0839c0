use Rattle.df_lin.proofs.NoPoint.{no_point}
use Rattle.df_lin.proofs.law.refuted_rows_have_no_point.Goals as goal

pub returns : goal.returns
returns c count numbers rows has holds = no_point count numbers rows has holds
