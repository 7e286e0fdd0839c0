use Rattle.df_npass.proofs.Laws.{valid_is_safe}
use Rattle.df_npass.proofs.valid_is_safe.Goals as goal

pub returns : goal.returns
returns c = valid_is_safe
