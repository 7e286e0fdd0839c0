use Rattle.df_ntree.proofs.ExprLaw.{same_expression}
use Rattle.df_ntree.proofs.one_expression.Goals as goal

pub returns : goal.returns
returns c = same_expression
