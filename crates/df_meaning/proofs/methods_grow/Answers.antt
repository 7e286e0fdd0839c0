use Rattle.df_meaning.proofs.Laws.{methods_grow}
use Rattle.df_meaning.proofs.methods_grow.Goals as goal

pub returns : goal.returns
returns c = methods_grow
