use Rattle.df_classes.proofs.Starting.{counted_pushed}
use Rattle.df_classes.proofs.partition.counted.Goals as goal

pub loop-number-preserved : goal.loop-number-preserved
loop-number-preserved c = counted_pushed c.loop-number.numbers.items c.push.new.self.items c.loop-number.number c.loop-number.invariant c.in_ok-push.ensures.items
