use Rattle.df_nerase.proofs.First.{broken_is_not_native}
use Rattle.df_nerase.proofs.broken_is_not_native.Goals as goal

pub returns : goal.returns
returns c = broken_is_not_native
