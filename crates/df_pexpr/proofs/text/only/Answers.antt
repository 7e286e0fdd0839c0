use Rattle.df_pexpr.proofs.Spelled.{last_is}
use Rattle.df_pexpr.proofs.text.only.Goals as goal

pub returns : goal.returns
returns c = last_is c.args.frame.items.items _ c.in-Some.ast c.in-Some.ensures.items c.requires
