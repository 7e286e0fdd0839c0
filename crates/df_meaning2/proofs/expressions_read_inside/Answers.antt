use Rattle.df_meaning2.proofs.ReadingInside.{expressions_read_inside}
use Rattle.df_meaning2.proofs.expressions_read_inside.Goals as goal

pub returns : goal.returns
returns c = λ m calls s t e k. expressions_read_inside m calls s t e k
