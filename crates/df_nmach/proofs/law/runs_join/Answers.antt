use Rattle.df_nmach.proofs.Runs.{run_add}
use Rattle.df_nmach.proofs.law.runs_join.Goals as goal

pub returns : goal.returns
returns c code k m s = run_add code k m s
