use Rattle.df_meaning2.proofs.Evaluating.{evaluate_grows}
use Rattle.df_meaning2.proofs.expressions_grow.Goals as goal

pub returns : goal.returns
returns c = evaluate_grows
