use Rattle.df_nplain.proofs.Short.{texts_are_short}
use Rattle.df_nplain.proofs.texts_are_short.Goals as goal

pub returns : goal.returns
returns c = texts_are_short
