use Rattle.df_cong.proofs.Lines.{lines_are_contradictions}
use Rattle.df_cong.proofs.lines_are_contradictions.Goals as goal

pub returns : goal.returns
returns c = lines_are_contradictions
