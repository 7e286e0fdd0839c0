use Rattle.df_elim.proofs.Telling.{lists_tell}
use Rattle.df_elim.proofs.law.rows_hold_where_first_levels_do.Goals as goal

pub returns : goal.returns
returns c count numbers rows first = lists_tell count numbers rows first
