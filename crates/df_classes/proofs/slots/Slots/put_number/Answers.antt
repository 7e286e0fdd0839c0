use Rattle.df_classes.proofs.Stamping.{slots_same}
use Rattle.df_classes.proofs.slots.Slots.put_number.Goals as goal

pub returns-then-is_none-clause-keeps : goal.returns-then-is_none-clause-keeps
returns-then-is_none-clause-keeps c = slots_same c.args.held c.args.self.now.slots.items
