use Rattle.df_npass.proofs.Laws.{refuted_is_wrong}
use Rattle.df_npass.proofs.refuted_is_wrong.Goals as goal

pub returns : goal.returns
returns c = refuted_is_wrong
