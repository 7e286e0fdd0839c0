use Rattle.df_ntyping.proofs.Complete.{one_typing}
use Rattle.df_ntyping.proofs.one_typing.Goals as goal

pub returns : goal.returns
returns c = one_typing
