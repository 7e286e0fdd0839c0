use Rattle.df_meaning.proofs.Endless.{loops_never_end}
use Rattle.df_meaning.proofs.loops_never_end.Goals as goal

pub returns : goal.returns
returns c = loops_never_end
