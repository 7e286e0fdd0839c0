use Rattle.df_mach2.proofs.Runs.{ends_for_good}
use Rattle.df_mach2.proofs.law.an_end_is_final.Goals as goal

pub returns : goal.returns
returns c code k m s final = ends_for_good code k m s final
