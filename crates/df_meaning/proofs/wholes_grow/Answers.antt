use Rattle.df_meaning.proofs.Executing.{wholes_grow}
use Rattle.df_meaning.proofs.wholes_grow.Goals as goal

pub returns : goal.returns
returns c = wholes_grow
