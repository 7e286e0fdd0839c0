use Rattle.df_meaning2.proofs.Agreeing.{expressions_agree}
use Rattle.df_meaning2.proofs.expressions_agree.Goals as goal

pub returns : goal.returns
returns c = λ m calls s t e k. expressions_agree m calls s t e k
