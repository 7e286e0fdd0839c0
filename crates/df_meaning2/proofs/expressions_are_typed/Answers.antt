use Rattle.df_meaning2.proofs.ExprTypes.{typed}
use Rattle.df_meaning2.proofs.expressions_are_typed.Goals as goal

pub returns : goal.returns
returns c = λ m calls g s h t e is. typed m calls e g s t h is
