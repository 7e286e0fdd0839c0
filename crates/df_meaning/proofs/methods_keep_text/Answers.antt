use Rattle.df_meaning.proofs.Laws.{methods_keep_text}
use Rattle.df_meaning.proofs.methods_keep_text.Goals as goal

pub returns : goal.returns
returns c = methods_keep_text
