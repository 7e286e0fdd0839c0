use Rattle.df_meaning2.proofs.Deepening.{deeper}
use Rattle.df_meaning2.proofs.wholes_grow.Goals as goal

pub returns : goal.returns
returns c = deeper
