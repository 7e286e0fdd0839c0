use Rattle.df_ntyping.proofs.OneMissing as law
use Rattle.df_ntyping.proofs.one_missing_told.Goals as goal

pub returns : goal.returns
returns c = law.one_missing_told
