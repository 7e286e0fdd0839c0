use Rattle.df_nerase.proofs.Methods.{methods_are_found}
use Rattle.df_nerase.proofs.methods_are_found.Goals as goal

pub returns : goal.returns
returns c = methods_are_found
