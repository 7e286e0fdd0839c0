use Rattle.df_classes.proofs.Stamping.{slots_same, slots_then}
use Rattle.df_classes.proofs.slots.Slots.forget.Goals as goal

pub loop-number-init : goal.loop-number-init
loop-number-init c = slots_same c.args.held c.args.self.now.slots.items

pub returns-then-not-forget_last : goal.returns-then-not-forget_last
returns-then-not-forget_last c = slots_then c.args.held c.args.self.now.slots.items c.loop-number.self.slots.items c.forget_last.new.self.slots.items c.loop-number.invariant c.forget_last.ensures

pub loop-number-preserved : goal.loop-number-preserved
loop-number-preserved c = slots_then c.args.held c.args.self.now.slots.items c.loop-number.self.slots.items c.forget_last.new.self.slots.items c.loop-number.invariant c.forget_last.ensures
