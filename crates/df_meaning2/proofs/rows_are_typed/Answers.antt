use Rattle.df_meaning2.proofs.RowTypes.{row_is}
use Rattle.df_meaning2.proofs.rows_are_typed.Goals as goal

pub returns : goal.returns
returns c = row_is
