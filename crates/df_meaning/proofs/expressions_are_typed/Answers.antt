use Rattle.df_meaning.proofs.Laws.{expressions_are_typed}
use Rattle.df_meaning.proofs.expressions_are_typed.Goals as goal

pub returns : goal.returns
returns c = expressions_are_typed
