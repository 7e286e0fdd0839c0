use Rattle.df_npass.proofs.Laws.{safe_is_valid}
use Rattle.df_npass.proofs.safe_is_valid.Goals as goal

pub returns : goal.returns
returns c = safe_is_valid
