use Rattle.df_nproof.proofs.Judged.{outcomes_are}
use Rattle.df_nproof.proofs.law.outcomes_are.Goals as goal

pub returns : goal.returns
returns c = λ program groups budget outcomes judged verified. outcomes_are program groups budget outcomes judged verified
