use Rattle.df_ntyping.proofs.WantedTold.{faultless_is_wanted}
use Rattle.df_ntyping.proofs.faultless_is_wanted.Goals as goal

pub returns : goal.returns
returns c = faultless_is_wanted
