use Rattle.df_ntyping.proofs.Silent.{typed_is_faultless}
use Rattle.df_ntyping.proofs.typed_is_faultless.Goals as goal

pub returns : goal.returns
returns c = typed_is_faultless
