use Rattle.df_cong.proofs.LaterNodes.{later_nodes_add_none}
use Rattle.df_cong.proofs.later_nodes_add_none.Goals as goal

pub returns : goal.returns
returns c = later_nodes_add_none
