use Rattle.df_nplain.proofs.Growing.{statements_grow}
use Rattle.df_nplain.proofs.statements_grow.Goals as goal

pub returns : goal.returns
returns c = statements_grow
