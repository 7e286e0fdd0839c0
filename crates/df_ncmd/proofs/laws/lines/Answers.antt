use Rattle.df_ncmd.proofs.Rows.{all_lines}
use Rattle.df_ncmd.proofs.laws.lines.Goals as goal

pub returns : goal.returns
returns c = all_lines
