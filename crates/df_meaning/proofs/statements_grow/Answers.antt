use Rattle.df_meaning.proofs.Executing.{execute_grows}
use Rattle.df_meaning.proofs.statements_grow.Goals as goal

pub returns : goal.returns
returns c = execute_grows
