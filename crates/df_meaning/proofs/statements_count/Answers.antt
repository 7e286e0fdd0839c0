use Rattle.df_meaning.proofs.DefiniteRuns.{statements_count}
use Rattle.df_meaning.proofs.statements_count.Goals as goal

pub returns : goal.returns
returns c = statements_count
