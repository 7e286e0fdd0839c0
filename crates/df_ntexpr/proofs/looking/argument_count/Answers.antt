use Rattle.df_ntexpr.proofs.Opening.{counted}
use Rattle.df_ntexpr.proofs.looking.argument_count.Goals as goal

pub returns : goal.returns
returns c = counted c.args.all.now
