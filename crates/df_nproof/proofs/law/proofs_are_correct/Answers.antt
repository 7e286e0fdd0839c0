use Rattle.df_nproof.proofs.Correct.{proofs_are_correct}
use Rattle.df_nproof.proofs.law.proofs_are_correct.Goals as goal

pub returns : goal.returns
returns c = proofs_are_correct c.derivations_are_valid.ensures c.valid_sequents_are_valid_obligations.ensures c.all_valid_is_safe.ensures c.safe_is_correct.ensures
