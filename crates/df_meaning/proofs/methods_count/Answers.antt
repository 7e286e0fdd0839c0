use Rattle.df_meaning.proofs.DefiniteRuns.{methods_count}
use Rattle.df_meaning.proofs.methods_count.Goals as goal

pub returns : goal.returns
returns c = methods_count
