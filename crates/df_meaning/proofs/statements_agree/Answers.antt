use Rattle.df_meaning.proofs.Laws.{statements_agree}
use Rattle.df_meaning.proofs.statements_agree.Goals as goal

pub returns : goal.returns
returns c = statements_agree
