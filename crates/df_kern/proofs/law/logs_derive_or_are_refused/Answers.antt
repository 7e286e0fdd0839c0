use Rattle.df_kern.proofs.Refusals.{refused_exactly}
use Rattle.df_kern.proofs.law.logs_derive_or_are_refused.Goals as goal

pub returns : goal.returns
returns c = refused_exactly
