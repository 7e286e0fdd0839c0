use Rattle.std.proofs.Common.{None}
use Rattle.df_classes.proofs.Stamping.{slots_same, slot_keeps}
use Rattle.df_classes.proofs.slots.Slots.clear.Goals as goal

pub returns-then-label-len : goal.returns-then-label-len
returns-then-label-len c = slot_keeps c.args.self.now.slots.items c.args.label c.args.held c.requires None

pub returns-else-label-len : goal.returns-else-label-len
returns-else-label-len c = slots_same c.args.held c.args.self.now.slots.items
