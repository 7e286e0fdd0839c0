use Rattle.df_ntexpr.proofs.RowsSoFar.{last_behind}
use Rattle.df_ntexpr.proofs.signs.is_last.Goals as goal

pub returns : goal.returns
returns c = last_behind c.args.rows.now c.args.i c.requires
