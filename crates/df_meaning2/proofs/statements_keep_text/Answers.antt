use Rattle.df_meaning2.proofs.Printed.{statements_keep_text}
use Rattle.df_meaning2.proofs.statements_keep_text.Goals as goal

pub returns : goal.returns
returns c = statements_keep_text
