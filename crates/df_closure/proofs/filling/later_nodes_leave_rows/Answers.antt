use Rattle.df_closure.proofs.LaterRows.{rows_later}
use Rattle.df_closure.proofs.filling.later_nodes_leave_rows.Goals as goal

pub returns : goal.returns
returns c = λ nodes more literals table grows all. rows_later nodes more table grows literals all
