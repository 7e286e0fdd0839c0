use Rattle.df_hoare.proofs.Methods.{safe_is_correct}
use Rattle.df_hoare.proofs.safe_is_correct.Goals as goal

pub returns : goal.returns
returns c = safe_is_correct
