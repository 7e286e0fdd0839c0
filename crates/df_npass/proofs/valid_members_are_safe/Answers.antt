use Rattle.df_npass.proofs.Laws.{valid_members_are_safe}
use Rattle.df_npass.proofs.valid_members_are_safe.Goals as goal

pub returns : goal.returns
returns c = valid_members_are_safe
