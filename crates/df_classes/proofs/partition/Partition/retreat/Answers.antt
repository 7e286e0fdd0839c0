use Rattle.std.proofs.Common.{arith}
use Rattle.df_classes.proofs.Retreating.{retreats_on}
use Rattle.df_classes.proofs.partition.Partition.retreat.Goals as goal

pub loop-self-preserved : goal.loop-self-preserved
loop-self-preserved c = retreats_on c.args.changes c.args.self.now c.loop-self.self c.undo_last.new.self c.loop-self.invariant (omega arith) c.undo_last.ensures
