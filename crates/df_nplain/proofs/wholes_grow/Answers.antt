use Rattle.df_nplain.proofs.Growing.{wholes_grow}
use Rattle.df_nplain.proofs.wholes_grow.Goals as goal

pub returns : goal.returns
returns c = wholes_grow
