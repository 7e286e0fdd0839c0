use Rattle.df_ntyping.proofs.LeastExists as law
use Rattle.df_ntyping.proofs.least_exists.Goals as goal

pub returns : goal.returns
returns c = law.least_exists
