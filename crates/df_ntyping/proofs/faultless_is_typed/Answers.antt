use Rattle.df_ntyping.proofs.WantedTold.{faultless_is_typed}
use Rattle.df_ntyping.proofs.faultless_is_typed.Goals as goal

pub returns : goal.returns
returns c = faultless_is_typed
