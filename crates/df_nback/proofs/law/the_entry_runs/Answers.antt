use Rattle.df_nback.proofs.Entry.{entry_runs}
use Rattle.df_nback.proofs.law.the_entry_runs.Goals as goal

pub returns : goal.returns
returns c program code number method compiled entry correct = entry_runs program code number method compiled entry correct
