use Rattle.df_ncmd.proofs.Rows.{all_numbers}
use Rattle.df_ncmd.proofs.laws.numbers.Goals as goal

pub returns : goal.returns
returns c = all_numbers
