use Rattle.df_meaning.proofs.Laws.{results_are_typed}
use Rattle.df_meaning.proofs.results_are_typed.Goals as goal

pub returns : goal.returns
returns c = results_are_typed
