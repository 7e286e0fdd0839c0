use Rattle.df_meaning2.proofs.Deepening.{methods_deeper}
use Rattle.df_meaning2.proofs.methods_grow.Goals as goal

pub returns : goal.returns
returns c = methods_deeper
