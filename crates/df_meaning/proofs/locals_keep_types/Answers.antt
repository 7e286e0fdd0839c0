use Rattle.df_meaning.proofs.Laws.{locals_keep_types}
use Rattle.df_meaning.proofs.locals_keep_types.Goals as goal

pub returns : goal.returns
returns c = locals_keep_types
