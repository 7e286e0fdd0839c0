use Rattle.df_classes.proofs.Starting.{ones_pushed}
use Rattle.df_classes.proofs.lists.Lists.ones.Goals as goal

pub loop-number-preserved : goal.loop-number-preserved
loop-number-preserved c =
    ones_pushed (λ list. list.items) c.loop-number.lists.items c.push.new.self.items c.loop-number.number c.in_ok-vec.field-0 c.loop-number.invariant c.in_ok-push.ensures.items c.in_ok-vec.ensures.items
