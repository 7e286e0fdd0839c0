use Rattle.df_mach2.proofs.Runs.{next_never}
use Rattle.df_mach2.proofs.law.steps_keep_what_never_faults.Goals as goal

pub returns : goal.returns
returns c code s next = next_never code s next
