use Rattle.df_mach2.proofs.Runs.{step_front, run_front}
use Rattle.df_mach2.proofs.law.text_stays_in_front.Goals as goal

pub returns : goal.returns
returns c = record { step = step_front; run = run_front }
