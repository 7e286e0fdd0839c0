use Rattle.df_nerase.proofs.Wholes.{methods_are_simulated}
use Rattle.df_nerase.proofs.methods_are_simulated.Goals as goal

pub returns : goal.returns
returns c = methods_are_simulated
