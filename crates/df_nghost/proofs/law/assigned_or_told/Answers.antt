use Rattle.df_nghost.proofs.Programs.{assigned_or_told}
use Rattle.df_nghost.proofs.law.assigned_or_told.Goals as goal

pub returns : goal.returns
returns c = assigned_or_told
