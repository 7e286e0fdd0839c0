use Rattle.df_ntyping.proofs.FileStands as law
use Rattle.df_ntyping.proofs.fault_is_told.Goals as goal

pub returns : goal.returns
returns c = law.fault_is_told
