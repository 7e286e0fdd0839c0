use Rattle.df_meaning.proofs.Endless.{methods_never_end}
use Rattle.df_meaning.proofs.methods_never_end.Goals as goal

pub returns : goal.returns
returns c = methods_never_end
