use Rattle.df_nverdict.proofs.Correct.{are_correct}
use Rattle.df_nverdict.proofs.law.judged_is_correct.Goals as goal

pub returns : goal.returns
returns c = are_correct c.derivations_are_valid.ensures c.valid_sequents_are_valid_obligations.ensures c.valid_is_safe.ensures c.safe_is_correct.ensures
