use Rattle.df_nenc.proofs.Trees.{grown_tree}
use Rattle.df_nenc.proofs.law.trees_stay.Goals as goal

pub returns : goal.returns
returns c = λ before now n g lt. grown_tree before now g n lt
