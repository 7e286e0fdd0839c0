use Rattle.df_nterm.proofs.Laws.{below_is_order}
use Rattle.df_nterm.proofs.below_is_order.Goals as goal

pub returns : goal.returns
returns c = below_is_order
