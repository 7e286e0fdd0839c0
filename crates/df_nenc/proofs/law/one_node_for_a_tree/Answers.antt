use Rattle.df_nenc.proofs.Different.{trees_differ}
use Rattle.df_nenc.proofs.law.one_node_for_a_tree.Goals as goal

pub returns : goal.returns
returns c = trees_differ
