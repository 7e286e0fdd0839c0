use Rattle.df_classes.proofs.Stamping.{slots_same}
use Rattle.df_classes.proofs.slots.Slots.forget_last.Goals as goal

pub returns-in_default : goal.returns-in_default
returns-in_default c = slots_same c.args.held c.args.self.now.slots.items

pub returns-then-is_some : goal.returns-then-is_some
returns-then-is_some c = slots_same c.args.held c.args.self.now.slots.items
