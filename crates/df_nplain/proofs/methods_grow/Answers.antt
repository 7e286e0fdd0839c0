use Rattle.df_nplain.proofs.Growing.{methods_grow}
use Rattle.df_nplain.proofs.methods_grow.Goals as goal

pub returns : goal.returns
returns c = methods_grow
