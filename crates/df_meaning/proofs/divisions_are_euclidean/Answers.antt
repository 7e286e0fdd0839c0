use Rattle.df_meaning.proofs.Division.{divisions_are_euclidean}
use Rattle.df_meaning.proofs.divisions_are_euclidean.Goals as goal

pub returns : goal.returns
returns c = divisions_are_euclidean
