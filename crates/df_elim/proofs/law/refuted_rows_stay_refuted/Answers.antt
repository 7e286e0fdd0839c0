use Rattle.df_elim.proofs.Keeping.{stay_refuted}
use Rattle.df_elim.proofs.law.refuted_rows_stay_refuted.Goals as goal

pub returns : goal.returns
returns c rows more = stay_refuted rows more
