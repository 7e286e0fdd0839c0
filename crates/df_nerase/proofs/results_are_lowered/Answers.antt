use Rattle.df_nerase.proofs.Lowering.{results_are_lowered}
use Rattle.df_nerase.proofs.results_are_lowered.Goals as goal

pub returns : goal.returns
returns c = results_are_lowered
