use Rattle.df_ntexpr.proofs.RowsSoFar.{ends_behind}
use Rattle.df_ntexpr.proofs.looking.is_end.Goals as goal

pub returns : goal.returns
returns c = ends_behind c.args.rest.now c.args.i c.requires
