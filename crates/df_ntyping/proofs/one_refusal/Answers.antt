use Rattle.df_ntyping.proofs.OneRefusal as law
use Rattle.df_ntyping.proofs.one_refusal.Goals as goal

pub returns : goal.returns
returns c = law.one_refusal
