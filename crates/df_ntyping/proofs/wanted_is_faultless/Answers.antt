use Rattle.df_ntyping.proofs.WantedTold.{wanted_is_faultless}
use Rattle.df_ntyping.proofs.wanted_is_faultless.Goals as goal

pub returns : goal.returns
returns c = wanted_is_faultless
