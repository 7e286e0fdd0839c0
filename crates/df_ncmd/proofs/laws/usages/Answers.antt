use Rattle.df_ncmd.proofs.Rows.{all_usages}
use Rattle.df_ncmd.proofs.laws.usages.Goals as goal

pub returns : goal.returns
returns c = all_usages
