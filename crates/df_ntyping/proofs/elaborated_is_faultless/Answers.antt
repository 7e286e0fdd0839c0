use Rattle.df_ntyping.proofs.SoundFiles as law
use Rattle.df_ntyping.proofs.elaborated_is_faultless.Goals as goal

pub returns : goal.returns
returns c = law.elaborated_is_faultless
