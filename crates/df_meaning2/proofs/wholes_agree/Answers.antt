use Rattle.df_meaning2.proofs.Agreeing.{wholes_agree}
use Rattle.df_meaning2.proofs.wholes_agree.Goals as goal

pub returns : goal.returns
returns c = λ p n at callee types vs s t h k. wholes_agree p n at callee types vs s t h k
