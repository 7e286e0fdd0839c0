use Rattle.std.proofs.Common.{Some}
use Rattle.df_classes.proofs.Stamping.{slots_same, slot_keeps, slot_there}
use Rattle.df_classes.proofs.slots.Slots.set.Goals as goal

pub returns-then-label-len-clause-keeps : goal.returns-then-label-len-clause-keeps
returns-then-label-len-clause-keeps c = slots_same c.args.held c.args.self.now.slots.items

pub returns-in_err-push-clause-keeps : goal.returns-in_err-push-clause-keeps
returns-in_err-push-clause-keeps c = slots_same c.args.held c.args.self.now.slots.items

pub returns-clause-sets : goal.returns-clause-sets
returns-clause-sets c = λ less. slot_there c.args.self.now.slots.items c.args.label c.args.held c.args.node less

pub returns-clause-keeps : goal.returns-clause-keeps
returns-clause-keeps c = slot_keeps c.args.self.now.slots.items c.args.label c.args.held c.requires (Some (record { node = c.args.node; since = c.args.held }))
