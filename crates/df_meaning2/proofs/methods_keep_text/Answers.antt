use Rattle.df_meaning2.proofs.Printed.{methods_keep_text}
use Rattle.df_meaning2.proofs.methods_keep_text.Goals as goal

pub returns : goal.returns
returns c = methods_keep_text
