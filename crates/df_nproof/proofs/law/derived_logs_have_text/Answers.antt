use Rattle.df_nproof.proofs.NamedSteps.{derived_have_text}
use Rattle.df_nproof.proofs.law.derived_logs_have_text.Goals as goal

pub returns : goal.returns
returns c = derived_have_text
