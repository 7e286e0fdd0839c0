use Rattle.df_refutation.proofs.Keeping.{no_numbers, more_numbers}
use Rattle.df_refutation.proofs.kept.own_numbers.Goals as goal

pub loop-number-init : goal.loop-number-init
loop-number-init c = no_numbers c.new-numbers.result.items c.new-numbers.ensures.items

pub loop-number-preserved : goal.loop-number-preserved
loop-number-preserved c = more_numbers c.loop-number.number c.loop-number.numbers.items c.push.new.self.items c.loop-number.invariant c.in_ok-push.ensures.items
