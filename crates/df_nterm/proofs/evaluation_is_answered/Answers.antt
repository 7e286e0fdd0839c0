use Rattle.df_nterm.proofs.Laws.{evaluation_is_answered}
use Rattle.df_nterm.proofs.evaluation_is_answered.Goals as goal

pub returns : goal.returns
returns c = evaluation_is_answered
