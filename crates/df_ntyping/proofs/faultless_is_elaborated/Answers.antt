use Rattle.df_ntyping.proofs.ElaboratedFiles as law
use Rattle.df_ntyping.proofs.faultless_is_elaborated.Goals as goal

pub returns : goal.returns
returns c = law.faultless_is_elaborated
