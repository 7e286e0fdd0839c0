use Rattle.df_nerase.proofs.Wholes.{correct_methods_run_alike}
use Rattle.df_nerase.proofs.correct_methods_run_alike.Goals as goal

pub returns : goal.returns
returns c = correct_methods_run_alike
