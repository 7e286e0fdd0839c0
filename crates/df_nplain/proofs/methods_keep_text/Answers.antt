use Rattle.df_nplain.proofs.Texts.{methods_keep_text}
use Rattle.df_nplain.proofs.methods_keep_text.Goals as goal

pub returns : goal.returns
returns c = methods_keep_text
