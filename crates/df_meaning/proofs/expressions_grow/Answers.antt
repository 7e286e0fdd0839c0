use Rattle.df_meaning.proofs.Growing.{evaluate_grows}
use Rattle.df_meaning.proofs.expressions_grow.Goals as goal

pub returns : goal.returns
returns c = evaluate_grows
