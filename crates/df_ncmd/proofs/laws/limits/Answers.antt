use Rattle.df_ncmd.proofs.Ranges.{in_limits}
use Rattle.df_ncmd.proofs.laws.limits.Goals as goal

pub returns : goal.returns
returns c = λ words command is. in_limits words command is
