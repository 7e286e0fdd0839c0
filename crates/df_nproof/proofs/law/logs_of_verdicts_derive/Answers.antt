use Rattle.df_nproof.proofs.Judged.{logs_derive}
use Rattle.df_nproof.proofs.law.logs_of_verdicts_derive.Goals as goal

pub returns : goal.returns
returns c = λ program groups budget outcomes proofs judged verified. logs_derive program groups budget outcomes proofs judged verified
