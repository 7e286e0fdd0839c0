use Rattle.df_hoare2.proofs.FunctionsLaw.{functions_are_correct}
use Rattle.df_hoare2.proofs.functions_are_correct.Goals as goal

pub returns : goal.returns
returns c = functions_are_correct
