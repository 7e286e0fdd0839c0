use Rattle.df_hoare.proofs.Ends.{loops_end}
use Rattle.df_hoare.proofs.loops_end.Goals as goal

pub returns : goal.returns
returns c = loops_end
