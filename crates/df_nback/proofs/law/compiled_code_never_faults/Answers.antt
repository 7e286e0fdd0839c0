use Rattle.df_nback.proofs.Runs.{never_faults}
use Rattle.df_nback.proofs.law.compiled_code_never_faults.Goals as goal

pub returns : goal.returns
returns c program code compiled = never_faults program code compiled
