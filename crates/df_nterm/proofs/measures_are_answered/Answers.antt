use Rattle.df_nterm.proofs.Laws.{measures_are_answered}
use Rattle.df_nterm.proofs.measures_are_answered.Goals as goal

pub returns : goal.returns
returns c = measures_are_answered
