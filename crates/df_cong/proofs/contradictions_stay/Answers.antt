use Rattle.df_cong.proofs.Growing.{contradictions_stay}
use Rattle.df_cong.proofs.contradictions_stay.Goals as goal

pub returns : goal.returns
returns c = contradictions_stay
