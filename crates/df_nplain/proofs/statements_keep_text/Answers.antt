use Rattle.df_nplain.proofs.Texts.{statements_keep_text}
use Rattle.df_nplain.proofs.statements_keep_text.Goals as goal

pub returns : goal.returns
returns c = statements_keep_text
