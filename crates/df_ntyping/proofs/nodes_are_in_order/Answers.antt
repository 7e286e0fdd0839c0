use Rattle.df_ntyping.proofs.FileOrder.{nodes_are_in_order}
use Rattle.df_ntyping.proofs.nodes_are_in_order.Goals as goal

pub returns : goal.returns
returns c = nodes_are_in_order
