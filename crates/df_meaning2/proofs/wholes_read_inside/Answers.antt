use Rattle.df_meaning2.proofs.ReadingInside.{wholes_read_inside}
use Rattle.df_meaning2.proofs.wholes_read_inside.Goals as goal

pub returns : goal.returns
returns c = λ p n at callee types vs s t h k. wholes_read_inside p n at callee types vs s t h k
