use Rattle.df_ntexpr.proofs.Opening.{single}
use Rattle.df_ntexpr.proofs.signs.is_single.Goals as goal

pub returns : goal.returns
returns c = single c.args.rest.now
