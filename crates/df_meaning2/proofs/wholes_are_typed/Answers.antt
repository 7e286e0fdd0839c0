use Rattle.df_meaning2.proofs.WholeTypes.{wholes_typed}
use Rattle.df_meaning2.proofs.wholes_are_typed.Goals as goal

pub returns : goal.returns
returns c = λ p is depth. wholes_typed p is depth
