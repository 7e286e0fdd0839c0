use Rattle.df_nenc.proofs.Trees.{tree_sort}
use Rattle.df_nenc.proofs.law.sorts_are_those_of_trees.Goals as goal

pub returns : goal.returns
returns c = tree_sort
