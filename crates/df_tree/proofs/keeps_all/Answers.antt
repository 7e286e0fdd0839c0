use Rattle.df_tree.proofs.Kept.{keeps_all}
use Rattle.df_tree.proofs.keeps_all.Goals as goal

pub returns : goal.returns
returns c = λ at t. keeps_all at t
