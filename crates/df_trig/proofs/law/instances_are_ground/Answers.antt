use Rattle.df_trig.proofs.Grounds.{instances_ground}
use Rattle.df_trig.proofs.law.instances_are_ground.Goals as goal

pub returns : goal.returns
returns c = instances_ground
