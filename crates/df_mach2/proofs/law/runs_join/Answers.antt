use Rattle.df_mach2.proofs.Runs.{run_add}
use Rattle.df_mach2.proofs.law.runs_join.Goals as goal

pub returns : goal.returns
returns c code k m s = run_add code k m s
