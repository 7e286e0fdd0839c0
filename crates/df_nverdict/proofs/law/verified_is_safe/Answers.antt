use Rattle.df_nverdict.proofs.Correct.{method_is_safe}
use Rattle.df_nverdict.proofs.law.verified_is_safe.Goals as goal

pub returns : goal.returns
returns c = method_is_safe c.derivations_are_valid.ensures c.valid_sequents_are_valid_obligations.ensures c.valid_is_safe.ensures
