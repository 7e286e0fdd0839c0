use Rattle.df_ntyping.proofs.Types.{one_type}
use Rattle.df_ntyping.proofs.one_type.Goals as goal

pub returns : goal.returns
returns c = one_type
