use Rattle.df_nowed.proofs.Meaning.{same_validity}
use Rattle.df_nowed.proofs.law.valid_sequents_are_valid_obligations.Goals as goal

pub returns : goal.returns
returns c = same_validity
