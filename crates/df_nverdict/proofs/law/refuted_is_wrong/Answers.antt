use Rattle.df_nverdict.proofs.Correct.{is_wrong}
use Rattle.df_nverdict.proofs.law.refuted_is_wrong.Goals as goal

pub returns : goal.returns
returns c = is_wrong c.refuted_sequents_are_refuted_obligations.ensures c.refuted_is_wrong.ensures
