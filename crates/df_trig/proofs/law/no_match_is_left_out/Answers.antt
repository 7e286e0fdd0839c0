use Rattle.df_trig.proofs.Matching.{none_left_out}
use Rattle.df_trig.proofs.law.no_match_is_left_out.Goals as goal

pub returns : goal.returns
returns c = none_left_out
