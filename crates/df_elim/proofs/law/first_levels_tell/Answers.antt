use Rattle.df_elim.proofs.Telling.{first_tells}
use Rattle.df_elim.proofs.law.first_levels_tell.Goals as goal

pub returns : goal.returns
returns c count numbers rows first is hold = first_tells count numbers rows first is hold
