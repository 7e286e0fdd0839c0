use Rattle.df_nerase.proofs.Lowering.{arguments_are_lowered}
use Rattle.df_nerase.proofs.arguments_are_lowered.Goals as goal

pub returns : goal.returns
returns c = arguments_are_lowered
