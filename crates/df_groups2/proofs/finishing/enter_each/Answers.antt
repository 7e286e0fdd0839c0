use Rattle.df_groups2.proofs.Searches.{enters_more}
use Rattle.df_groups2.proofs.finishing.enter_each.Goals as goal

pub loop-vertex-preserved : goal.loop-vertex-preserved
loop-vertex-preserved c = enters_more c.loop-vertex.vertex c.loop-vertex.steps.items c.push.new.self.items c.in_ok-push.ensures.items c.loop-vertex.invariant
