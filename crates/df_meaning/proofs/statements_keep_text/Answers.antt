use Rattle.df_meaning.proofs.Laws.{statements_keep_text}
use Rattle.df_meaning.proofs.statements_keep_text.Goals as goal

pub returns : goal.returns
returns c = statements_keep_text
