use Rattle.df_typing.proofs.Least.{told_is_least}
use Rattle.df_typing.proofs.told_is_least.Goals as goal

pub returns : goal.returns
returns c = λ file fault e. told_is_least _ fault e
