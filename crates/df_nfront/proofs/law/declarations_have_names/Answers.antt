use Rattle.df_nfront.proofs.OwnNames.{lawful_names}
use Rattle.df_nfront.proofs.law.declarations_have_names.Goals as goal

pub returns : goal.returns
returns c source program lawful = lawful_names source program lawful
