use Rattle.df_nfront.proofs.Declared.{lawful_named}
use Rattle.df_nfront.proofs.law.methods_have_names.Goals as goal

pub returns : goal.returns
returns c source program lawful = lawful_named source program lawful
