use Rattle.df_nowed.proofs.Meaning.{same_refutation}
use Rattle.df_nowed.proofs.law.refuted_sequents_are_refuted_obligations.Goals as goal

pub returns : goal.returns
returns c = same_refutation
