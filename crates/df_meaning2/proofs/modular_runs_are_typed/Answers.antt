use Rattle.df_meaning2.proofs.WholeTypes.{modulars_typed}
use Rattle.df_meaning2.proofs.modular_runs_are_typed.Goals as goal

pub returns : goal.returns
returns c = λ p is depth o run. modulars_typed p is depth o run
