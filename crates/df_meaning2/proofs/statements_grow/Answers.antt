use Rattle.df_meaning2.proofs.Executing.{execute_grows}
use Rattle.df_meaning2.proofs.statements_grow.Goals as goal

pub returns : goal.returns
returns c = execute_grows
