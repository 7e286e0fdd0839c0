use Rattle.df_nenc.proofs.Trees.{made_tree}
use Rattle.df_nenc.proofs.law.made_nodes_are_trees.Goals as goal

pub returns : goal.returns
returns c = made_tree
