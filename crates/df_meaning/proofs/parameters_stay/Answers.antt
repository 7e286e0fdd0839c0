use Rattle.df_meaning.proofs.Laws.{parameters_stay}
use Rattle.df_meaning.proofs.parameters_stay.Goals as goal

pub returns : goal.returns
returns c = parameters_stay
