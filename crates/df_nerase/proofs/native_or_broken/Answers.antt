use Rattle.df_nerase.proofs.First.{native_or_broken}
use Rattle.df_nerase.proofs.native_or_broken.Goals as goal

pub returns : goal.returns
returns c = native_or_broken
